-- Rows of a list or a table (RULES 2 and 5). Wherever rows are a list, the largest cluster stands first.
--     clusters_of rs   the clusters of rows
--     scored_in rs     the clusters of the scored rows
--     leaves rs       the leaf set: the union of the scored clusters, whatever their weights; no taxon where none is scored
--     RowFacts w rs   what holds of the rows of any accepted list of w taxa: they fall, and none is empty or past the width
--     Entry A         a row and what was worked out for it
--     cl, sc          the cluster of an entry, and whether its row is scored
-- Assumes nothing.
use Rattle.std.specs.Prelude.{Bool, ◌≢◌, List, map, ℕ, ◌^◌, ◌<◌}
use mathlib.Core.List.{Memᴰ as Mem}
use Rattle.laws.specs.Cluster.{union_of}
use Rattle.laws.specs.Row.{Row, is_scored}
use Rattle.laws.specs.Lists.{keep}
use Rattle.laws.specs.Orders.{Falling}

abbrev pub clusters_of : List Row → List ℕ
clusters_of rs = map (λ (r : Row). r.cluster) rs

abbrev pub scored_in : List Row → List ℕ
scored_in rs = clusters_of (keep is_scored rs)

abbrev pub leaves : List Row → ℕ
leaves rs = union_of (scored_in rs)

pub record RowFacts (w : ℕ) (rs : List Row) : Type 0 where
  pub falls : Falling (clusters_of rs)
  pub fits : (r : Row) → Mem r rs → (r.cluster ≢ 0) × (r.cluster < 2 ^ w)

pub record Entry (A : Type 0) : Type 0 where
  pub row : Row
  pub val : A

module _ {A : Type 0} where
  abbrev pub cl : Entry A → ℕ
  cl e = e.row.cluster

  abbrev pub sc : Entry A → Bool
  sc e = is_scored e.row
