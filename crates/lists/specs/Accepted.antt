-- Which lists are taken, in the words of the rules (RULES 2 and 8), and lists that are written. Laws: `proofs/Laws/Records.antt`,
-- `proofs/Laws/Written.antt`; the theorems stand in `proofs/Theorems.antt`.
--     Bytes l                 every element is a byte
--     KeepsAt, Repeats W l i  record i keeps the record rules; it has the cluster of an earlier record
--     FirstBad, FirstRepeat W l i     record i is the first that breaks them; that repeats an earlier one
--     Accepted W l            a list that is taken: whole records, not none and not too many; every record keeps the rules, and none
--                             repeats an earlier one
--     HasCluster W l c        c is the cluster of a record
--     RecordsAmong W l m      every record of l is one of m
--     bytes_of_rows W rs        the bytes of rows, one after the other, the smallest cluster first
-- Assumes nothing.
use Rattle.std.specs.Prelude.{◌≡◌, ◌≢◌, List, map, ℕ, ◌%◌, ◌≤◌, ◌<◌, length, get_or}
use Rattle.laws.specs.Limits.{Width}
use Rattle.laws.specs.Row.{Row}
use Rattle.cluster.specs.Bytes.{byte_values}
use Rattle.cluster.specs.Reading.{KeepsBytes}
use Rattle.cluster.specs.Record.{bytes_of}
use Rattle.lists.specs.ListFrom.{list_from}
use Rattle.lists.specs.Records.{records_in, bytes_at, listed_at}

abbrev pub Bytes : List ℕ → Type 0
Bytes l = (i : ℕ) → get_or l i 0 < byte_values

module _ (W : Width) (l : List ℕ) where
  -- ---- a record
  abbrev pub KeepsAt : ℕ → Type 0
  KeepsAt i = KeepsBytes W (bytes_at W l i)

  abbrev pub Repeats : ℕ → Type 0
  Repeats i = (j : ℕ) × (j < i) × ((listed_at W l i).cluster ≡ (listed_at W l j).cluster)

  pub record FirstBad (i : ℕ) : Type 0 where
    pub within : i < records_in W l
    pub broken : KeepsAt i → ⊥
    pub before : (j : ℕ) → j < i → KeepsAt j

  pub record FirstRepeat (i : ℕ) : Type 0 where
    pub within : i < records_in W l
    pub again : Repeats i
    pub before : (j : ℕ) → j < i → Repeats j → ⊥

  -- ---- the list
  pub record Accepted : Type 0 where
    pub filled : length l ≢ 0
    pub short : length l ≤ W.list_bytes
    pub whole : length l % W.record_bytes ≡ 0
    pub kept : (i : ℕ) → i < records_in W l → KeepsAt i
    pub once : (i : ℕ) → i < records_in W l → Repeats i → ⊥

  abbrev pub HasCluster : ℕ → Type 0
  HasCluster c = (i : ℕ) × (i < records_in W l) × (c ≡ (listed_at W l i).cluster)

  abbrev pub RecordsAmong : List ℕ → Type 0
  RecordsAmong m = (i : ℕ) → i < records_in W l → (j : ℕ) × (j < records_in W m) × (listed_at W l i ≡ listed_at W m j)

-- ---- rows written
abbrev pub bytes_of_rows : Width → List Row → List ℕ
bytes_of_rows W rs = list_from (map (bytes_of W) rs)
