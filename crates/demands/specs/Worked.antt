-- The words for a row that is worked out from the rows of its table (RULES 7), whether or not a build made the table.
--     rows_in t                the rows of a table, the largest cluster first
--     tuples_at t i            the tuples of row i: of the table's scored rows, as they stand
--     live_at t i              those with no zero count
--     marked_set cs m          the clusters of the rows marked in m, cs being those of all rows
--     joined_set cs τ          the clusters of the rows marked in one row of the tuple τ or more
--     sum_bests τ              the bests of a tuple's rows added up
--     Chosen W t i τ          τ is the tuple that row i has its best weight and its members from
--     Joined W t i            row i of two or more taxa, scored
--     WorkedRow W t i         row i, whatever it is
-- Assumes nothing.
use Rattle.std.specs.Prelude.{◌≡◌, ◌⊎◌, ◌≢◌, ◌↔◌, ℕ, T, ℤ, pos, ◌+ℤ◌}
use mathlib.Core.List.{List, [], ◌∷◌, map, Memᴰ as Mem}
use Rattle.std.specs.Int.Signed.{lt_z}
use Rattle.laws.specs.Cluster.{single}
use Rattle.laws.specs.Limits.{Width}
use Rattle.laws.specs.Lists.{keep, any}
use Rattle.laws.specs.Row.{Row, is_scored}
use Rattle.trees.specs.Rows.{cl, sc}
use Rattle.trees.specs.Tuple.{tuples}
use Rattle.trees.specs.Heaviest.{tie_first}
use Rattle.trees.specs.Result.{Result, blank}
use Rattle.trees.specs.Built.{row_length}
use Rattle.trees.specs.Beneath.{Beneath, sum_counts, is_live, is_many}
use Rattle.kept.specs.declared.table.Table.{Table}
use Rattle.kept.specs.View.{row_at, result_at, entries_of, clusters_in}
use Rattle.kept.specs.Marks.{is_marked_in}
use Rattle.members.specs.Marked.{total}

-- ---- tuples of a table's rows

abbrev pub rows_in : Table → List Row
rows_in t = map (λ (e : Beneath). e.row) (entries_of t t.rows)

abbrev pub tuples_at : Table → ℕ → List (List Beneath)
tuples_at t i = tuples t.degree (row_at t i).cluster (keep sc (entries_of t t.rows))

abbrev pub live_at : Table → ℕ → List (List Beneath)
live_at t i = keep is_live (tuples_at t i)

abbrev pub marked_set : List ℕ → ℕ → List ℕ
marked_set cs m = keep (is_marked_in cs m) cs

abbrev pub joined_set : List ℕ → List Beneath → List ℕ
joined_set cs τ = keep (λ (c : ℕ). any (λ (e : Beneath). is_marked_in cs e.val.members c) τ) cs

abbrev pub sum_bests : List Beneath → ℤ
sum_bests τ = total (map (λ (e : Beneath). e.val.best) τ)

-- ---- a row by its tuples

module _ (W : Width) (t : Table) (i : ℕ) where
  abbrev row : Row
  row = row_at t i

  abbrev result : Result
  result = result_at t i

  abbrev all : List ℕ
  all = clusters_in t

  pub record Chosen (τ : List Beneath) : Type 0 where
    -- a tuple with no zero count; its sum of bests is the largest, and with the row's weight it is the best
    pub live : Mem τ (live_at t i)
    pub heaviest : (σ : List Beneath) → Mem σ (live_at t i) → T (lt_z (sum_bests τ) (sum_bests σ)) → ⊥
    pub best : result.best ≡ row.weight +ℤ sum_bests τ
    -- the row itself and the members of the tuple's rows are the members
    pub own : (c : ℕ) → Mem c (marked_set all result.members) ↔ ((c ≡ row.cluster) ⊎ Mem c (joined_set all τ))
    -- of two different tuples of that sum, the chosen one's set has the largest cluster that is in exactly one of the two sets
    pub first : (σ : List Beneath) → Mem σ (live_at t i) → sum_bests σ ≡ sum_bests τ
        → (σ ≡ τ) ⊎ T (tie_first (joined_set all τ) (joined_set all σ))

  pub record Joined : Type 0 where
    -- marked by a tuple with no zero count and a marked one, or past the limit
    pub many : T (is_many W.count_max (tuples_at t i)) → (result.mark ≡ 1) × (result.count ≡ W.count_max)
    pub exact : (T (is_many W.count_max (tuples_at t i)) → ⊥) → (result.mark ≡ 0) × (result.count ≡ sum_counts (tuples_at t i))
    -- the rows of a tuple have no member in common, and different tuples have different sets
    pub parted : (τ : List Beneath) → Mem τ (live_at t i) → (e x : Beneath) → Mem e τ → Mem x τ → cl e ≢ cl x
        → (c : ℕ) → Mem c (marked_set all e.val.members) → Mem c (marked_set all x.val.members) → ⊥
    pub sets : (σ τ : List Beneath) → Mem σ (live_at t i) → Mem τ (live_at t i) → joined_set all σ ≡ joined_set all τ → σ ≡ τ
    -- no tuple is left, or one is chosen
    pub none : live_at t i ≡ [] → (result.best ≡ pos 0) × (result.members ≡ 0)
    pub chosen : live_at t i ≢ [] → (τ : List Beneath) × Chosen τ

  pub record WorkedRow : Type 0 where
    pub length : result.length ≡ row_length t.degree (rows_in t) row
    pub unscored : (T (is_scored row) → ⊥) → result ≡ blank
    pub taxon : T (is_scored row) → T (single row.cluster)
        → (result.count ≡ 1) × (result.mark ≡ 0) × (result.best ≡ row.weight) × (marked_set all result.members ≡ row.cluster ∷ [])
    pub joined : T (is_scored row) → (T (single row.cluster) → ⊥) → Joined
