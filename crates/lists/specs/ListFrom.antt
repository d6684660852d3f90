-- Records put one after the other, and a list with its unscored records left out. Laws: `proofs/Laws/RecordBytes.antt`,
-- `proofs/Laws/ListFrom.antt`, `proofs/Laws/Without.antt`.
--     list_from bs            the bytes of records one after the other; the last record stands first in bs
--     records_down W l        the bytes of the records of a list, the last record first
--     cluster_in, has_score W b     the cluster that the bytes of a record hold; the record is scored
--     without_unscored W l    the list with its unscored records left out: those that stay are unchanged and in their order
-- Assumes nothing.
use Rattle.std.specs.Prelude.{Bool, List, [], ◌∷◌, ◌++◌, ℕ}
use Rattle.laws.specs.Limits.{Width}
use Rattle.laws.specs.Lists.{keep}
use Rattle.laws.specs.Orders.{down_to}
use Rattle.laws.specs.Row.{is_scored}
use Rattle.cluster.specs.Record.{row_of}
use Rattle.lists.specs.Records.{records_in, bytes_at}

abbrev pub list_from : List (List ℕ) → List ℕ
list_from [] = []
list_from (b ∷ bs) = list_from bs ++ b

module _ (W : Width) where
  abbrev pub records_down : List ℕ → List (List ℕ)
  records_down l = down_to (bytes_at W l) (records_in W l)

  -- ---- the bytes of a record
  abbrev pub cluster_in : List ℕ → ℕ
  cluster_in b = (row_of W b).cluster

  abbrev pub has_score : List ℕ → Bool
  has_score b = is_scored (row_of W b)

  -- ---- the list without its unscored records
  abbrev pub without_unscored : List ℕ → List ℕ
  without_unscored l = list_from (keep has_score (records_down l))
