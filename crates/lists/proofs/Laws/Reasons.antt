-- What each reason for refusing a list says in words.
--     empty_iff, long_iff, cut_iff     1, 3 and 2
--     bad_iff, repeated_iff            5 and 6, with their positions
--     kept_iff, once_iff               neither of them: every record keeps the rules, and none repeats an earlier one
-- Assumes nothing.
use mathlib.Core.Path.{◌≡◌, ap}
use mathlib.Core.Logic.{◌≢◌, ◌↔◌}
use mathlib.Core.Bool.{not}
use mathlib.Core.List.{List}
use Prim.Native.Nat.{ℕ, ◌%◌, ◌<◌}
use lib.Dec.{T, eqb, ltb, eqb→eq, ltb→lt, lt→ltb}
use lib.ListN.{length}
use Rattle.laws.specs.Limits.{Width}
use Rattle.laws.proofs.First.{found_iff, unfound_iff}
use Rattle.laws.proofs.Tests.{eq→eqb, neq→, →neq}
use Rattle.answers.specs.declared.refusal.Refusal.TheVariants.{BadRecord, Repeated}
use Rattle.answers.specs.Refusal.{position_of}
use Rattle.lists.specs.Records.{records_in, breaks, first_bad, repeats, first_repeat}
use Rattle.lists.specs.Accepted.{KeepsAt, Repeats, FirstBad, FirstRepeat}
use Rattle.lists.proofs.Laws.Records.{keeps_iff, breaks_iff, repeats_iff, new_iff}

module _ (W : Width) (l : List ℕ) where
  pub empty_iff : T (eqb (length l) 0) ↔ (length l ≡ 0)
  empty_iff = (eqb→eq (length l) 0, eq→eqb (length l) 0)

  pub long_iff : T (ltb W.list_bytes (length l)) ↔ (W.list_bytes < length l)
  long_iff = (ltb→lt W.list_bytes (length l), lt→ltb W.list_bytes (length l))

  pub cut_iff : T (not (eqb (length l % W.record_bytes) 0)) ↔ (length l % W.record_bytes ≢ 0)
  cut_iff = (neq→ (length l % W.record_bytes) 0, →neq (length l % W.record_bytes) 0)

  -- ---- the records
  abbrev n : ℕ
  n = records_in W l

  pub bad_iff : (i : ℕ) → (T (ltb (first_bad W l) n) × (BadRecord (first_bad W l) ≡ BadRecord i)) ↔ FirstBad W l i
  bad_iff i = (to, from)
    where
      to : T (ltb (first_bad W l) n) × (BadRecord (first_bad W l) ≡ BadRecord i) → FirstBad W l i
      to k =
          let q = (found_iff (breaks W l) n i).0 (k.0, ap position_of k.1) in
          record { within = q.0; broken = (breaks_iff W l i).0 q.1; before = λ j h. (keeps_iff W l j).0 (q.2 j h) }

      from : FirstBad W l i → T (ltb (first_bad W l) n) × (BadRecord (first_bad W l) ≡ BadRecord i)
      from k =
          let q = (found_iff (breaks W l) n i).1 (k.within, (breaks_iff W l i).1 k.broken, λ j h. (keeps_iff W l j).1 (k.before j h)) in
          (q.0, ap BadRecord q.1)

  pub repeated_iff : (i : ℕ) → (T (ltb (first_repeat W l) n) × (Repeated (first_repeat W l) ≡ Repeated i)) ↔ FirstRepeat W l i
  repeated_iff i = (to, from)
    where
      to : T (ltb (first_repeat W l) n) × (Repeated (first_repeat W l) ≡ Repeated i) → FirstRepeat W l i
      to k =
          let q = (found_iff (repeats W l) n i).0 (k.0, ap position_of k.1) in
          record { within = q.0; again = (repeats_iff W l i).0 q.1; before = λ j h. (new_iff W l j).0 (q.2 j h) }

      from : FirstRepeat W l i → T (ltb (first_repeat W l) n) × (Repeated (first_repeat W l) ≡ Repeated i)
      from k =
          let q = (found_iff (repeats W l) n i).1 (k.within, (repeats_iff W l i).1 k.again, λ j h. (new_iff W l j).1 (k.before j h)) in
          (q.0, ap Repeated q.1)

  pub kept_iff : (T (ltb (first_bad W l) n) → ⊥) ↔ ((i : ℕ) → i < n → KeepsAt W l i)
  kept_iff = (
    λ k i h. (keeps_iff W l i).0 ((unfound_iff (breaks W l) n).0 k i h),
    λ k. (unfound_iff (breaks W l) n).1 (λ i h. (keeps_iff W l i).1 (k i h)),
  )

  pub once_iff : (T (ltb (first_repeat W l) n) → ⊥) ↔ ((i : ℕ) → i < n → Repeats W l i → ⊥)
  once_iff = (
    λ k i h. (new_iff W l i).0 ((unfound_iff (repeats W l) n).0 k i h),
    λ k. (unfound_iff (repeats W l) n).1 (λ i h. (new_iff W l i).1 (k i h)),
  )
