-- What a fit table is, as facts: a sentence of the rules for each field (RULES 6). That `is_fit` tests just these: `is_fit→` and `→is_fit` in
-- `proofs/Laws/Fit.antt`.
--     Ranged W r v     the ranges of a row's results
--     Matched cs r v   what its count says of its marks and its best weight, cs being the clusters of all rows, the largest first
--     FitRow W cs r v  a row and its results
--     Bounded W d n    n rows and the degree bound d are those of some fit table
--     FitTable W t     the table
-- Assumes nothing.
use Rattle.std.specs.Prelude.{◌≡◌, ◌⊎◌, ◌≢◌, false, List, ℕ, ◌-◌, ◌*◌, ◌^◌, ◌≤◌, ◌<◌, T, pos, nat_abs, length}
use Rattle.laws.specs.Cluster.{inside, size, single}
use Rattle.laws.specs.Limits.{Width, weight_max, is_degree, row_cap}
use Rattle.laws.specs.Row.{Row, is_scored}
use Rattle.cluster.specs.Rule.{Keeps}
use Rattle.trees.specs.Result.{Result, blank}
use Rattle.kept.specs.declared.table.Table.{Table}
use Rattle.kept.specs.View.{row_at, result_at, entry_at, clusters_in}
use Rattle.kept.specs.Blank.{empty_row}
use Rattle.kept.specs.Marks.{every_marked, is_marked_in}

-- ---- a row

pub record Ranged (W : Width) (r : Row) (v : Result) : Type 0 where
  pub tuples : v.length ≤ W.length_max
  pub counted : v.count ≤ W.count_max
  -- a mark is 0, or 1 beside a count of the limit
  pub marked : (v.mark ≡ 0) ⊎ ((v.mark ≡ 1) × (v.count ≡ W.count_max))
  -- a single taxon has no row length, and an unscored row no result
  pub taxon : T (single r.cluster) → v.length ≡ 0
  pub unscored : (T (is_scored r) → ⊥) → v ≡ blank

pub record Matched (cs : List ℕ) (r : Row) (v : Result) : Type 0 where
  -- no mark stands past the rows
  pub below : v.members < 2 ^ length cs
  -- a count of zero: no member, mark or best weight; where no member is marked the count is zero, by what follows
  pub none : v.count ≡ 0 → (v.members ≡ 0) × (v.mark ≡ 0) × (v.best ≡ pos 0)
  -- any other: the row is its own member, no member lies outside it, and the best weight is no further from zero than the members of a tree
  -- on so many taxa can bring it
  pub own : v.count ≢ 0 → T (is_marked_in cs v.members r.cluster)
  pub inner : v.count ≢ 0 → T (every_marked cs v.members (λ (c : ℕ). inside c r.cluster))
  pub light : v.count ≢ 0 → nat_abs v.best ≤ weight_max * (2 * size r.cluster - 1)

pub record FitRow (W : Width) (cs : List ℕ) (r : Row) (v : Result) : Type 0 where
  -- cluster, weight and state by the record rules
  pub width : r.cluster < 2 ^ W.taxa
  pub rules : Keeps r.cluster r.weight r.state false
  pub ranged : Ranged W r v
  pub matched : Matched cs r v

-- ---- the table

pub record Bounded (W : Width) (d n : ℕ) : Type 0 where
  pub degree : T (is_degree d)
  pub filled : 1 ≤ n
  pub capped : n ≤ W.rows

pub record FitTable (W : Width) (t : Table) : Type 0 where
  -- a degree bound from 3 to 5, and 1 to 128 rows
  pub bounds : Bounded W t.degree t.rows
  -- strictly ascending clusters
  pub rising : (i j : ℕ) → i < j → j < t.rows → (row_at t i).cluster < (row_at t j).cluster
  -- each row is fit, and past them each is empty
  pub fit : (i : ℕ) → i < t.rows → FitRow W (clusters_in t) (row_at t i) (result_at t i)
  pub past : (i : ℕ) → t.rows ≤ i → i < row_cap → entry_at t i ≡ empty_row
