-- A table worked out with the tuples of each row found by recursion, each row beneath taken or passed over: what a checker can compute.
-- By the definition, the sets of rows beneath are gone through, and those of fifteen rows are too many.
--     by_tuples W cs r τs     the fields of the row r of two or more taxa, from its tuples
--     quick_row               the fields of a row
--     quick_rows              the rows of a list with their fields
--     quick_built            they are the built rows
-- Assumes nothing.
use mathlib.Core.Path.{◌≡◌, refl, sym, ap, ◌∙◌}
use mathlib.Core.Bool.{cond}
use mathlib.Core.List.Memᴰ.{head as here}
use mathlib.Core.List.{List, [], ◌∷◌, map, Memᴰ as Mem}
use Prim.Native.Nat.{ℕ, ◌-◌, ◌<◌}
use native.Mathlib.Omega.{arith}
use lib.Dec.{lit≤}
use lib.ListN.{length}
use Rattle.laws.specs.Cluster.{single}
use Rattle.laws.specs.Limits.{Width, narrow}
use Rattle.laws.specs.Lists.{keep}
use Rattle.laws.specs.Row.{Row, is_scored}
use Rattle.laws.proofs.Keep.{mem_of_keep}
use Rattle.trees.specs.Rows.{clusters_of, Entry, cl, sc, RowFacts}
use Rattle.trees.specs.Result.{Result, blank}
use Rattle.trees.specs.Built.{built_table}
use Rattle.trees.specs.Rescored.{joined, alone, worked_out}
use Rattle.trees.specs.Kind.{worked_from}
use Rattle.trees.specs.Beneath.{Beneath, key_of, is_live, first_key}
use Rattle.trees.proofs.Formula.Rows.{facts_tail, above_rest, table-row}
use Rattle.trees.proofs.Searching.Covers.{chosen, chosen_is, tuples_are_covers}
use Rattle.trees.proofs.Built.{worked_is_built}

abbrev by_tuples : Width → List ℕ → Row → List (List Beneath) → Result
by_tuples W cs r τs = joined W cs r (length τs) τs (first_key (map key_of (keep is_live τs)))

abbrev row_by : Width → List ℕ → Row → List (List Beneath) → Result
row_by W cs r τs = cond (is_scored r) (cond (single r.cluster) (alone cs r) (by_tuples W cs r τs)) blank

abbrev pub quick_row : Width → ℕ → List ℕ → Row → List Beneath → Result
quick_row W d cs r t = row_by W cs r (chosen (d - 1) r.cluster (keep sc t))

abbrev pub quick_rows : ℕ → List Row → List (Entry Result)
quick_rows d rs = worked_from (quick_row narrow d (clusters_of rs)) rs

quick_row_lem : (W : Width) (d : ℕ) (cs : List ℕ) (r : Row) (t : List Beneath) → 0 < r.cluster
    → ((x : Beneath) → Mem x t → cl x < r.cluster) → quick_row W d cs r t ≡ worked_out W d cs r t
quick_row_lem W d cs r t p f =
    ap (row_by W cs r)
    (chosen_is (d - 1) r.cluster (keep sc t)
    ∙ sym (tuples_are_covers d r.cluster (keep sc t) p (λ x m. f x (mem_of_keep sc t m).0)))

module _ (w d : ℕ) (cs : List ℕ) where
  quick_rows_lem : (rs : List Row) → RowFacts w rs → worked_from (quick_row narrow d cs) rs ≡ worked_from (worked_out narrow d cs) rs
  quick_rows_lem [] f = refl
  quick_rows_lem (r ∷ rs) f =
      ap (λ (t : List Beneath). record { row = r; val = quick_row narrow d cs r t } ∷ t) (quick_rows_lem rs (facts_tail w r rs f))
      ∙ ap (λ (v : Result). record { row = r; val = v } ∷ worked) (quick_row_lem narrow d cs r worked (filled (f.fits r (here refl)).0) below)
    where
      worked : List Beneath
      worked = worked_from (worked_out narrow d cs) rs

      filled : (r.cluster ≡ 0 → ⊥) → 0 < r.cluster
      filled n = omega arith

      below : (x : Beneath) → Mem x worked → cl x < r.cluster
      below x m = above_rest w r rs f x.row (table-row (worked_out narrow d cs) rs x m)

pub quick_built : (d : ℕ) (rs : List Row) → RowFacts narrow.taxa rs → quick_rows d rs ≡ built_table narrow d rs
quick_built d rs f = quick_rows_lem narrow.taxa d (clusters_of rs) rs f ∙ worked_is_built narrow (lit≤ tt) d rs f
