-- Reading a list of records: why it is refused, and the rows that it holds (RULES 2 and 8). The degree bound is left aside. Laws:
-- `proofs/Laws/Reasons.antt`, `proofs/Laws/Listing.antt`.
--     record_reasons W l      why a list of whole records is refused: 5, then 6; 5 over all records before 6
--     list_reasons W l        why a list is refused: 1, 3, 2, 5, 6 in that order
--     Listed, listed rs      rows in ascending order in arrays with room for 128, and how many; zero past them
--     listing_of r            the code's listing or refusal as an outcome: on a refusal there are no rows
--     list_ended W l rs       refused by the first of these reasons: no rows; where none applies, the rows of the list l
--     read_list W l           what reading the list l gives
-- Assumes nothing.
use Rattle.std.specs.Prelude.{not, List, [], ◌∷◌, ℕ, ◌%◌, eqb, ltb, ℤ, pos, length, Result}
use Rattle.laws.specs.Column.{column}
use Rattle.laws.specs.Limits.{Width}
use Rattle.laws.specs.Row.{Row}
use Rattle.answers.specs.declared.refusal.Refusal.{Refusal}
use Rattle.answers.specs.declared.refusal.Refusal.TheVariants.{NoBytes, WrongLength, TooLong, BadRecord, Repeated}
use Rattle.answers.specs.Outcome.{Outcome, result_of, ended}
use Rattle.answers.specs.Reasons.{Reason, when, first_reason}
use Rattle.lists.specs.declared.listing.Listing.{Listing}
use Rattle.lists.specs.Records.{records_in, rows_of, first_bad, first_repeat}

-- ---- why a list is refused
module _ (W : Width) (l : List ℕ) where
  abbrev pub record_reasons : List Reason
  record_reasons =
      when (ltb (first_bad W l) (records_in W l)) (BadRecord (first_bad W l))
      ∷ when (ltb (first_repeat W l) (records_in W l)) (Repeated (first_repeat W l))
      ∷ []

  abbrev pub list_reasons : List Reason
  list_reasons =
      when (eqb (length l) 0) NoBytes
      ∷ when (ltb W.list_bytes (length l)) TooLong
      ∷ when (not (eqb (length l % W.record_bytes) 0)) WrongLength
      ∷ record_reasons

-- ---- rows in arrays
pub record Listed : Type 0 where
  pub rows : ℕ
  pub clusters : List ℕ
  pub weights : List ℤ
  pub states : List ℕ

abbrev pub listed : List Row → Listed
listed rs = record {
  rows = length rs;
  clusters = column 0 (λ (r : Row). r.cluster) rs;
  weights = column (pos 0) (λ (r : Row). r.weight) rs;
  states = column 0 (λ (r : Row). r.state) rs;
}

abbrev pub listing_of : Result Listing Refusal → Outcome Listed
listing_of =
    result_of (λ (r : Listing). 0)
    (λ (r : Listing). record { rows = r.rows; clusters = r.clusters; weights = r.weights; states = r.states })
    (listed [])

-- ---- the outcome
abbrev pub list_ended : Width → List ℕ → List Reason → Outcome Listed
list_ended W l rs = ended (first_reason rs) (listed []) 0 (listed (rows_of W l))

unfoldable pub read_list : Width → List ℕ → Outcome Listed
read_list W l = list_ended W l (list_reasons W l)
