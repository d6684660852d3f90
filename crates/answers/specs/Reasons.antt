-- Why an operation is refused: its reasons in the order in which they are tested, and the first that applies (RULES 8). A further reason is
-- one line in the list of an operation. Laws: `proofs/Laws/Reasons.antt`.
--     Reason, when b f       a test, and what is sent back where it holds
--     first_reason rs         what is sent back: nothing where no reason applies
--     First rs f             f is the first that applies
--     NoneApplies rs         none does
-- Assumes nothing.
use Rattle.std.specs.Prelude.{◌≡◌, ◌⊎◌, Bool, cond, List, [], ◌∷◌, T}
use Rattle.std.proofs.Math.Option.{Option, none, some}
use Rattle.answers.specs.declared.refusal.Refusal.{Refusal}

pub record Reason : Type 0 where
  pub applies : Bool
  pub refusal : Refusal

abbrev pub when : Bool → Refusal → Reason
when b f = record { applies = b; refusal = f }

abbrev pub first_reason : List Reason → Option Refusal
first_reason [] = none
first_reason (r ∷ rs) = cond r.applies (some r.refusal) (first_reason rs)

abbrev pub First : List Reason → Refusal → Type 0
First [] f = ⊥
First (r ∷ rs) f = (T r.applies × (r.refusal ≡ f)) ⊎ ((T r.applies → ⊥) × First rs f)

abbrev pub NoneApplies : List Reason → Type 0
NoneApplies [] = Unit {0}
NoneApplies (r ∷ rs) = (T r.applies → ⊥) × NoneApplies rs
