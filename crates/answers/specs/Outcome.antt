-- How an operation ends: what it sends back, with the record, table or room that it hands back or leaves (RULES 8). Laws:
-- `proofs/Laws/Outcome.antt`.
--     Outcome A                 what is sent back, and what is given: a record, a table, a room afterwards
--     outcome_of a x             the code's answer a and what it gave, in these terms
--     result_of told given stays r     a value or a refusal in these terms: what is told of the value, and given of it; on a refusal this stays
--     ended f stays n given     refused f: this stays; else n is told, and this is given
--     put_into out l             the room l with this output at its start; past it, it is untouched
--     written rs out l          the output put at the start of the room l, unless one of the reasons applies, or last the room is too
--                               short; room past the output is untouched
-- Assumes nothing.
use Rattle.std.proofs.Math.Option.{Option, none, some}
use Rattle.std.specs.Prelude.{List, [], ◌∷◌, ◌++◌, ℕ, ltb, length, drop, Result, Ok, Err}
use Rattle.answers.specs.declared.refusal.Refusal.{Refusal}
use Rattle.answers.specs.declared.refusal.Refusal.TheVariants.{NoRoom}
use Rattle.answers.specs.Refusal.{Answer, Sent, sent_of}
use Rattle.answers.specs.Reasons.{Reason, when, first_reason}

pub record Outcome (A : Type 0) : Type 0 where
  pub sent : Sent
  pub given : A

module _ {A : Type 0} where
  abbrev pub outcome_of : Answer → A → Outcome A
  outcome_of a x = record { sent = sent_of a; given = x }

  abbrev pub result_of : {B : Type 0} → (B → ℕ) → (B → A) → A → Result B Refusal → Outcome A
  result_of told given stays (Ok x) = outcome_of (Ok (told x)) (given x)
  result_of told given stays (Err f) = outcome_of (Err f) stays

  abbrev pub ended : Option Refusal → A → ℕ → A → Outcome A
  ended (some f) stays n given = outcome_of (Err f) stays
  ended none stays n given = outcome_of (Ok n) given

abbrev pub put_into : List ℕ → List ℕ → List ℕ
put_into out l = out ++ drop (length out) l

abbrev pub written : List Reason → List ℕ → List ℕ → Outcome (List ℕ)
written rs out l =
    ended (first_reason (rs ++ (when (ltb (length l) (length out)) NoRoom ∷ []))) l (length out) (put_into out l)
