-- What the private search of tuples may count on.
--     Past, Below, Starts       some of the clusters, and all of them, that are below a number; below each taxon
--     WordsIn xs n              the first n of these are numbers of 64 bits
--     GoodRow, Sound            a row whose results the search may add up; all the first n rows are such, and ascend
--     Readable, Searchable      what looking up, and searching, may count on
-- Assumes nothing.
use Rattle.std.specs.Prelude.{◌≡◌, ◌⊎◌, ◌≢◌, ℕ, suc, ◌^◌, ◌≤◌, ◌<◌, T, length, get_or}
use mathlib.Core.List.{List, Memᴰ as Mem}
use Rattle.laws.specs.Cluster.{highest}
use Rattle.laws.specs.Orders.{Falling}
use Rattle.laws.specs.Limits.{row_cap, word_values}
use Rattle.laws.specs.Row.{Row, is_scored}
use Rattle.trees.specs.Result.{Result}
use Rattle.kept.specs.Arrays.{Rising}
use Rattle.kept.specs.Results.{is_matched}
use Rattle.table.specs.Columns.{Columns, column_row, fields_of}

-- ---- rows in ascending order
-- the first r of the n clusters are below v, and the others may be
pub record Past (cs : List ℕ) (n v r : ℕ) : Type 0 where
  pub within : r ≤ n
  pub less : (i : ℕ) → i < r → get_or cs i 0 < v

-- r of the first n clusters are below v
pub record Below (cs : List ℕ) (n v r : ℕ) : Type 0 where
  pub within : r ≤ n
  pub less : (i : ℕ) → i < r → get_or cs i 0 < v
  pub more : (i : ℕ) → r ≤ i → i < n → v ≤ get_or cs i 0

-- for each taxon, how many of the first n clusters lie below it; the last is all of them
pub record Starts (cs : List ℕ) (n : ℕ) (starts : List ℕ) : Type 0 where
  pub long : length starts ≡ 65
  pub each : (h : ℕ) → h ≤ 64 → Below cs n (2 ^ h) (get_or starts h 0)

-- ---- what looking up may count on
abbrev pub WordsIn : List ℕ → ℕ → Type 0
WordsIn xs n = (i : ℕ) → i < n → get_or xs i 0 < word_values

pub record GoodRow (limit : ℕ) (cs : List ℕ) (r : Row) (v : Result) : Type 0 where
  pub counted : v.count ≤ limit
  pub marked : (v.mark ≡ 0) ⊎ ((v.mark ≡ 1) × (v.count ≡ limit))
  pub matched : T (is_matched cs r v)

-- the first n rows ascend, and the results of the scored ones may be added up; cs are the clusters of all rows
pub record Sound (limit : ℕ) (k : Columns) (cs : List ℕ) (n : ℕ) : Type 0 where
  pub one : 1 ≤ limit
  pub small : limit < word_values
  pub short : length cs ≤ row_cap
  pub falls : Falling cs
  pub full : (c : ℕ) → Mem c cs → c ≢ 0
  pub rising : Rising k.clusters n
  pub nonzero : (i : ℕ) → i < n → 0 < get_or k.clusters i 0
  pub good : (i : ℕ) → i < n → T (is_scored (column_row k i)) → GoodRow limit cs (column_row k i) (fields_of k i)

pub record Readable (limit : ℕ) (k : Columns) (n : ℕ) : Type 0 where
  pub cs : List ℕ
  pub capped : n ≤ row_cap
  pub sound : Sound limit k cs n
  pub words : WordsIn k.lows n

-- and the first `end` rows lie below the taxon above the highest of `rest`, all rows below that highest taxon among them
pub record Searchable (limit : ℕ) (k : Columns) (starts : List ℕ) (end rest : ℕ) : Type 0 where
  pub readable : Readable limit k end
  pub rows : ℕ
  pub within : end ≤ rows
  pub capped : rows ≤ row_cap
  pub rising : Rising k.clusters rows
  pub begins : Starts k.clusters rows starts
  pub nonzero : 0 < rest
  pub small : rest < word_values
  pub run : get_or starts (highest rest) 0 ≤ end
  pub reach : end ≤ get_or starts (suc (highest rest)) 0
