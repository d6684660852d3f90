-- How an operation ends.
--     outcome_only      two answers, each with what was given, that have one outcome are equal
--     result_only       two values or refusals that have one outcome are equal, if what is told and given of a value is all of it
--     ended-refused, ended_done     what an outcome tells of the refusal, and what was given
--     accepts_iff       the number sent back is 0 exactly where no reason applies
--     refuses_iff       a refusal is sent back exactly where it is the first that applies
--     written-refused, written_passed     writing into a room: the first reason that applies; where none does, the room decides
--     written-short, written-whole     by the room
--     written-told      a success tells how many were written, which the room has room for
--     written-ends      where the room alone decides, a success or 11
--     written_same      what is put into a room that is long enough for the one is one
--     written_accepts_iff     it is written exactly where no reason applies and the room is long enough
-- Assumes nothing.
use mathlib.Core.Path.{◌≡◌, refl, sym, ap, ap₂, ◌∙◌}
use mathlib.Core.Logic.{◌⊎◌, inl, inr, ◌↔◌}
use mathlib.Core.Option.{Option, none, some}
use mathlib.Core.List.{List, [], ◌∷◌, ◌++◌}
use Prim.Native.Nat.{ℕ, suc, ◌≤◌, ◌<◌}
use native.Mathlib.Decide.{dec_le}
use native.Mathlib.Omega.{arith}
use borrow.Author.Tests.{le-leb, lt-leb}
use lib.Dec.{T, ltb, lt→ltb}
use lib.ListN.{length, take, drop}
use lib.Seq.{take-append_seam}
use Rattle.std.specs.Prelude.{Result, Ok, Err}
use Rattle.answers.specs.declared.refusal.Refusal.{Refusal}
use Rattle.answers.specs.declared.refusal.Refusal.TheVariants.{NoRoom}
use Rattle.answers.specs.Refusal.{Answer, sent_of}
use Rattle.answers.specs.Reasons.{Reason, when, first_reason, First, NoneApplies}
use Rattle.answers.specs.Outcome.{Outcome, outcome_of, result_of, ended, written}
use Rattle.answers.proofs.Laws.Reasons.{reason_told, reason_passed, first_some, first-none, none-append, first_iff, none_iff}
use Rattle.answers.proofs.Laws.Refusal.{sent_of_inj, number_pos}

module _ {A : Type 0} where
  pub outcome_only : {o : Outcome A} (a b : Answer) (x y : A) → outcome_of a x ≡ o → outcome_of b y ≡ o → (a ≡ b) × (x ≡ y)
  outcome_only a b x y p q =
      let e = p ∙ sym q in (sent_of_inj a b (ap (λ (o : Outcome A). o.sent) e), ap (λ (o : Outcome A). o.given) e)

  -- of two values or refusals that have one outcome too, where what is told and given of a value is all of it
  pub result_only : {B : Type 0} (told : B → ℕ) (given : B → A) (stays : A) {o : Outcome A}
      → ((x y : B) → told x ≡ told y → given x ≡ given y → x ≡ y)
      → (r s : Result B Refusal) → result_of told given stays r ≡ o → result_of told given stays s ≡ o → r ≡ s
  result_only told given stays all (Ok x) (Ok y) p q =
      let e = outcome_only (Ok (told x)) (Ok (told y)) (given x) (given y) p q in
      ap Ok (all x y (ap (λ (a : Answer). (sent_of a).told) e.0) e.1)
  result_only told given stays all (Err f) (Err g) p q =
      let same = (outcome_only (Err f) (Err g) stays stays p q).0 in let e : f ≡ g = cc in ap Err e
  result_only told given stays all (Ok x) (Err g) p q =
      absurd (number_pos g (sym (ap (λ (a : Answer). (sent_of a).number) (outcome_only (Ok (told x)) (Err g) (given x) stays p q).0)))
  result_only told given stays all (Err f) (Ok y) p q =
      absurd (number_pos f (ap (λ (a : Answer). (sent_of a).number) (outcome_only (Err f) (Ok (told y)) stays (given y) p q).0))

  -- out of an answer with what was given
  pub ended-refused : (o : Option Refusal) (stays : A) (n : ℕ) (given : A) (f : Refusal) (x : A)
      → ended o stays n given ≡ outcome_of (Err f) x → (o ≡ some f) × (x ≡ stays)
  ended-refused (some g) stays n given f x e =
      let q = outcome_only (Err g) (Err f) stays x e refl in let same = q.0 in (cc, sym q.1)
  ended-refused none stays n given f x e = let same = (outcome_only (Ok n) (Err f) given x e refl).0 in (cc, cc)

  pub ended_done : (o : Option Refusal) (stays : A) (n : ℕ) (given : A) (m : ℕ) (x : A)
      → ended o stays n given ≡ outcome_of (Ok m) x → (o ≡ none) × (x ≡ given)
  ended_done (some g) stays n given m x e = let same = (outcome_only (Err g) (Ok m) stays x e refl).0 in (cc, cc)
  ended_done none stays n given m x e = (refl, sym (outcome_only (Ok n) (Ok m) given x e refl).1)

  number→ : (f : Option Refusal) (stays : A) (n : ℕ) (given : A) → (ended f stays n given).sent.number ≡ 0 → f ≡ none
  number→ (some f) stays n given e = absurd (number_pos f e)
  number→ none stays n given e = refl

  sent→ : (o : Option Refusal) (stays : A) (n : ℕ) (given : A) (f : Refusal)
      → (ended o stays n given).sent ≡ sent_of (Err f) → o ≡ some f
  sent→ (some g) stays n given f e = let same : Err g ≡ Err f = sent_of_inj (Err g) (Err f) e in cc
  sent→ none stays n given f e = let same : Ok n ≡ Err f = sent_of_inj (Ok n) (Err f) e in cc

  module _ (rs : List Reason) (stays : A) (n : ℕ) (given : A) where
    pub accepts_iff : ((ended (first_reason rs) stays n given).sent.number ≡ 0) ↔ NoneApplies rs
    accepts_iff = (
      λ e. (none_iff rs).0 (number→ (first_reason rs) stays n given e),
      λ h. ap (λ (o : Option Refusal). (ended o stays n given).sent.number) ((none_iff rs).1 h),
    )

    pub refuses_iff : (f : Refusal) → ((ended (first_reason rs) stays n given).sent ≡ sent_of (Err f)) ↔ First rs f
    refuses_iff f = (
      λ e. (first_iff rs f).0 (sent→ (first_reason rs) stays n given f e),
      λ h. ap (λ (o : Option Refusal). (ended o stays n given).sent) ((first_iff rs f).1 h),
    )

module _ (rs : List Reason) (out l : List ℕ) where
  abbrev no_room : List Reason
  no_room = when (ltb (length l) (length out)) NoRoom ∷ []

  written_by : {f : Option Refusal} → first_reason (rs ++ no_room) ≡ f
      → written rs out l ≡ ended f l (length out) (out ++ drop (length out) l)
  written_by e = ap (λ (f : Option Refusal). ended f l (length out) (out ++ drop (length out) l)) e

  pub written-refused : (f : Refusal) → first_reason rs ≡ some f → written rs out l ≡ outcome_of (Err f) l
  written-refused f e = written_by (first_some rs no_room f e)

  pub written_passed : first_reason rs ≡ none → written rs out l ≡ written [] out l
  written_passed e = written_by (first-none rs no_room e)

  pub written-short : first_reason rs ≡ none → length l < length out → written rs out l ≡ outcome_of (Err NoRoom) l
  written-short e h = written_by (first-none rs no_room e ∙ reason_told (ltb (length l) (length out)) NoRoom [] (le-leb _ _ h))

  pub written-whole : first_reason rs ≡ none → length out ≤ length l
      → written rs out l ≡ outcome_of (Ok (length out)) (out ++ drop (length out) l)
  written-whole e h =
      let fits = lt-leb (suc (length l)) (length out) (omega arith) in
      written_by (first-none rs no_room e ∙ reason_passed (ltb (length l) (length out)) NoRoom [] fits)

  pub written_accepts_iff : ((written rs out l).sent.number ≡ 0) ↔ (NoneApplies rs × (length out ≤ length l))
  written_accepts_iff = (to, λ h. ap (λ (o : Outcome (List ℕ)). o.sent.number) (written-whole ((none_iff rs).1 h.0) h.1))
    where
      fits : (T (ltb (length l) (length out)) → ⊥) → Dec (length out ≤ length l) → length out ≤ length l
      fits h (yes k) = k
      fits h (no k) = absurd (h (lt→ltb (length l) (length out) (omega arith)))

      to : (written rs out l).sent.number ≡ 0 → NoneApplies rs × (length out ≤ length l)
      to e =
          let k = none-append rs no_room ((accepts_iff (rs ++ no_room) l (length out) (out ++ drop (length out) l)).0 e) in
          (k.0, fits k.1.0 (dec_le (length out) (length l)))

  pub written-told : (n : ℕ) (m : List ℕ) → outcome_of (Ok n) m ≡ written rs out l → (n ≡ length out) × (length out ≤ length l)
  written-told n m e =
      let q = written_accepts_iff.0 (sym (ap (λ (o : Outcome (List ℕ)). o.sent.number) e)) in
      (ap (λ (o : Outcome (List ℕ)). o.sent.told) (e ∙ written-whole ((none_iff rs).1 q.0) q.1), q.1)

-- ---- where the room alone decides

pub written-ends : (out room : List ℕ) → ((written [] out room).sent.number ≡ 0) ⊎ ((written [] out room).sent.number ≡ 11)
written-ends out room = go (dec_le (length out) (length room))
  where
    go : Dec (length out ≤ length room) → ((written [] out room).sent.number ≡ 0) ⊎ ((written [] out room).sent.number ≡ 11)
    go (yes h) = inl (ap (λ (o : Outcome (List ℕ)). o.sent.number) (written-whole [] out room refl h))
    go (no h) = inr (ap (λ (o : Outcome (List ℕ)). o.sent.number) (written-short [] out room refl (omega arith)))

pub written_same : (x y room : List ℕ) → length x ≤ length room → written [] x room ≡ written [] y room → x ≡ y
written_same x y room h same =
    sym (take-append_seam x (drop (length x) room)) ∙ ap₂ take lengths rooms ∙ take-append_seam y (drop (length y) room)
  where
    first : written [] x room ≡ outcome_of (Ok (length x)) (x ++ drop (length x) room)
    first = written-whole [] x room refl h

    -- a success, so there is room for the other too
    fits : length y ≤ length room
    fits = ((written_accepts_iff [] y room).0 (ap (λ (o : Outcome (List ℕ)). o.sent.number) (sym same ∙ first))).1

    both : outcome_of (Ok (length x)) (x ++ drop (length x) room) ≡ outcome_of (Ok (length y)) (y ++ drop (length y) room)
    both = sym first ∙ same ∙ written-whole [] y room refl fits

    lengths : length x ≡ length y
    lengths = ap (λ (o : Outcome (List ℕ)). o.sent.told) both

    rooms : x ++ drop (length x) room ≡ y ++ drop (length y) room
    rooms = ap (λ (o : Outcome (List ℕ)). o.given) both
