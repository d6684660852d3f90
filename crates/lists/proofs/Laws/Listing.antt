-- Reading a list: what it gives in each case, as the code meets them.
--     read_list_is       it ends by its reasons
--     read-empty, read-long, read_cut, read_whole     1, 3, 2, and whole records
--     whole_bad         5
--     whole_repeated, whole_done     6, and a success
-- Assumes nothing.
use mathlib.Core.Path.{◌≡◌, refl, sym, ap, ◌∙◌}
use mathlib.Core.Logic.{◌≢◌}
use mathlib.Core.Bool.{not}
use mathlib.Core.Option.{Option, none, some}
use mathlib.Core.List.{List, [], ◌∷◌}
use Prim.Native.Nat.{ℕ, ◌%◌, ◌≤◌, ◌<◌}
use native.Mathlib.Omega.{arith}
use borrow.Author.Tests.{eq-eqb, ne_eqb, lt-ltb, le-ltb}
use lib.Dec.{eqb, ltb}
use lib.ListN.{length, get_or}
use Rattle.laws.specs.Limits.{Width, narrow}
use Rattle.laws.specs.Row.{Row}
use Rattle.laws.proofs.Down.{down_ext}
use Rattle.std.specs.Prelude.{Ok, Err}
use Rattle.answers.specs.declared.refusal.Refusal.{Refusal}
use Rattle.answers.specs.declared.refusal.Refusal.TheVariants.{NoBytes, WrongLength, TooLong, BadRecord, Repeated}
use Rattle.answers.specs.Outcome.{Outcome, outcome_of, ended}
use Rattle.answers.specs.Reasons.{Reason, when, first_reason}
use Rattle.answers.proofs.Laws.Reasons.{reason_told, reason_passed}
use Rattle.lists.specs.declared.records.Records.{Records}
use Rattle.lists.specs.Records.{records_in, listed_at, rows_of, first_bad, first_repeat}
use Rattle.lists.specs.Listing.{Listed, listed, record_reasons, list_reasons, list_ended, read_list}
use Rattle.lists.specs.Read.{row_from, AllRead, BrokenTold}
use Rattle.lists.specs.Order.{through, HasClusters, AllPlaced, RepeatTold}

module _ (W : Width) (l : List ℕ) where
  pub read_list_is : read_list W l ≡ list_ended W l (list_reasons W l)
  unfolding read_list
  read_list_is = refl

  pub ended_by : (rs : List Reason) {f : Option Refusal} → first_reason rs ≡ f
      → list_ended W l rs ≡ ended f (listed []) 0 (listed (rows_of W l))
  ended_by rs e = ap (λ (f : Option Refusal). ended f (listed []) 0 (listed (rows_of W l))) e

  -- ---- its length
  abbrev cut : List Reason
  cut = when (not (eqb (length l % W.record_bytes) 0)) WrongLength ∷ record_reasons W l

  abbrev long : List Reason
  long = when (ltb W.list_bytes (length l)) TooLong ∷ cut

  pub read-empty : length l ≡ 0 → read_list W l ≡ outcome_of (Err NoBytes) (listed [])
  read-empty e = read_list_is ∙ ended_by (list_reasons W l) (reason_told _ NoBytes long (eq-eqb (length l) 0 e))

  module _ (filled : length l ≢ 0) where
    past-empty : first_reason (list_reasons W l) ≡ first_reason long
    past-empty = reason_passed _ NoBytes long (ne_eqb (length l) 0 filled)

    pub read-long : W.list_bytes < length l → read_list W l ≡ outcome_of (Err TooLong) (listed [])
    read-long h = read_list_is ∙ ended_by (list_reasons W l) (past-empty ∙ reason_told _ TooLong cut (lt-ltb W.list_bytes (length l) h))

    module _ (short : length l ≤ W.list_bytes) where
      past-long : first_reason (list_reasons W l) ≡ first_reason cut
      past-long = past-empty ∙ reason_passed _ TooLong cut (le-ltb W.list_bytes (length l) short)

      pub read_cut : length l % W.record_bytes ≢ 0 → read_list W l ≡ outcome_of (Err WrongLength) (listed [])
      read_cut h =
          read_list_is
          ∙ ended_by (list_reasons W l) (past-long ∙ reason_told _ WrongLength (record_reasons W l) (ap not (ne_eqb _ 0 h)))

      pub read_whole : length l % W.record_bytes ≡ 0 → read_list W l ≡ list_ended W l (record_reasons W l)
      read_whole h =
          read_list_is
          ∙ ended_by (list_reasons W l) (past-long ∙ reason_passed _ WrongLength (record_reasons W l) (ap not (eq-eqb _ 0 h)))

-- ---- its records
module _ (l : List ℕ) where
  abbrev again : List Reason
  again = when (ltb (first_repeat narrow l) (records_in narrow l)) (Repeated (first_repeat narrow l)) ∷ []

  pub whole_bad : {f : Refusal} → BrokenTold l f → list_ended narrow l (record_reasons narrow l) ≡ outcome_of (Err f) (listed [])
  whole_bad b =
      let found = lt-ltb (first_bad narrow l) (records_in narrow l) b.within in
      ended_by narrow l (record_reasons narrow l) (reason_told _ (BadRecord (first_bad narrow l)) again found ∙ ap some (sym b.first))

  module _ {s : Records} (read : AllRead l s) where
    none_bad : first_reason (record_reasons narrow l) ≡ first_reason again
    none_bad =
        let kept : records_in narrow l ≤ first_bad narrow l = omega (arith, read.first) in
        reason_passed _ (BadRecord (first_bad narrow l)) again (le-ltb (first_bad narrow l) (records_in narrow l) kept)

    has_clusters : HasClusters (listed_at narrow l) s.clusters (records_in narrow l)
    has_clusters p h = ap (λ (r : Row). r.cluster) (sym (read.rows p h))

    pub whole_repeated : {f : Refusal} → RepeatTold s.clusters (records_in narrow l) f
        → list_ended narrow l (record_reasons narrow l) ≡ outcome_of (Err f) (listed [])
    whole_repeated b =
        let within = b.within (listed_at narrow l) has_clusters in
        let found = lt-ltb (first_repeat narrow l) (records_in narrow l) within in
        ended_by narrow l (record_reasons narrow l)
        (none_bad
        ∙ reason_told _ (Repeated (first_repeat narrow l)) [] found
        ∙ ap some (sym (b.first (listed_at narrow l) has_clusters)))

    module _ {o : List ℕ} (order : AllPlaced s.clusters (records_in narrow l) o) where
      none-applies : first_reason (record_reasons narrow l) ≡ none
      none-applies =
          let new : records_in narrow l ≤ first_repeat narrow l = omega (arith, order.first (listed_at narrow l) has_clusters) in
          none_bad ∙ reason_passed _ (Repeated (first_repeat narrow l)) [] (le-ltb (first_repeat narrow l) (records_in narrow l) new)

      -- the rows as they were read are those of the list
      rows_are : through (row_from s) o (records_in narrow l) ≡ rows_of narrow l
      rows_are =
          down_ext (λ (j : ℕ). row_from s (get_or o j 0)) (λ (j : ℕ). listed_at narrow l (get_or o j 0)) (records_in narrow l)
          (λ j h. read.rows (get_or o j 0) (order.within j h))
          ∙ order.rows (listed_at narrow l) has_clusters

      pub whole_done : {x : Outcome Listed} → x ≡ outcome_of (Ok 0) (listed (through (row_from s) o (records_in narrow l)))
          → x ≡ list_ended narrow l (record_reasons narrow l)
      whole_done e =
          e
          ∙ ap (λ (rs : List Row). outcome_of (Ok 0) (listed rs)) rows_are
          ∙ sym (ended_by narrow l (record_reasons narrow l) none-applies)
