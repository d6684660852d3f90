-- The leaf set of a built table, its row, and whether there is a tree on it (RULES 5): what the table of accepted rows shows, in terms of
-- the rows it was built from. The words: `specs/Built.antt`.
--     rows_are, clusters_down_lem, shown_is, rising     the table's rows are those it was built from; it shows them all, ascending
--     row_at_lem                 each is one of them, with the results of its trees
--     leaf_set_is            the leaf set of the table is that of the rows
--     leaf_row_iff           it has a row exactly where one of the rows has it for cluster
--     leaf_row_is            and its row is that one, with the results of its trees
--     leaf_result_lem            which are those of the trees on the leaf set
--     leaf-listed            where there is a tree, the leaf set has a row
--     has_tree_iff           the table has a tree exactly where there is one
-- Assumes nothing.
use mathlib.Core.Path.{◌≡◌, refl, sym, ap, ap₂, ◌∙◌, subst}
use mathlib.Core.Logic.{◌≢◌, ◌↔◌}
use mathlib.Core.Option.{Option, none, some}
use mathlib.Core.List.Memᴰ
use mathlib.Core.List.{List, [], map, map-id}
use mathlib.Core.List.{Memᴰ as Mem}
use Prim.Native.Nat.{ℕ, ◌≤◌, ◌<◌}
use native.Mathlib.Decide.{dec_lt}
use native.Mathlib.Omega.{arith}
use lib.Dec.{T, ltb, ltb→lt, lt→ltb}
use lib.ListN.{length, length-map}
use Rattle.laws.specs.Limits.{Width, row_cap}
use Rattle.laws.specs.Lists.{elem}
use Rattle.laws.specs.Orders.{down_to}
use Rattle.laws.specs.Row.{Row}
use Rattle.laws.specs.Widths.{WidthFacts}
use Rattle.laws.proofs.Appended.{map-through}
use Rattle.laws.proofs.Down.{down_mem, down_map}
use Rattle.laws.proofs.Keep.{elem→, →elem, nil_of_none}
use Rattle.laws.proofs.Tests.{true_T}
use Rattle.trees.specs.Rows.{clusters_of, scored_in, leaves, Entry, cl}
use Rattle.trees.specs.Tree.{trees_on}
use Rattle.trees.specs.Heaviest.{first_heaviest}
use Rattle.trees.specs.Result.{Result, count_field}
use Rattle.trees.specs.Built.{row_length, with_best, tree_result, built_result, built_table}
use Rattle.trees.proofs.Formula.Rows.{given_of, mem-scored}
use Rattle.trees.proofs.Theorems.{count_iff}
use Rattle.trees.proofs.Joined.TreeTest.{tree_of}
use Rattle.kept.specs.declared.table.Table.{Table}
use Rattle.kept.specs.View.{row_at, result_at, entry_at, clusters_in, clusters_down}
use Rattle.kept.specs.Rows.{shown_rows, leaf_set}
use Rattle.kept.specs.Arrays.{Rising}
use Rattle.kept.proofs.Laws.Clusters.{clusters_are}
use Rattle.kept.proofs.Laws.Fit.{is_fit→}
use Rattle.kept.proofs.Laws.Rows.{all_shown, place_of_at, has_row_is}
use Rattle.kept.proofs.Laws.View.{entries_table, table-sized}
use Rattle.table.proofs.Fitting.FitTables.{built-fit}
use Rattle.table.proofs.Laws.Build.{Buildable}
use Rattle.members.specs.Draw.{leaf_row, has_tree}
use Rattle.members.proofs.Laws.Draw.{has_tree→, has_tree-count}
use Rattle.drawing.specs.Built.{built_from, trees_of}

-- ---- the rows of the table

module _ (W : Width) (facts : WidthFacts W) (d : ℕ) (rs : List Row) (k : Buildable W d rs) where
  abbrev t : Table
  t = built_from W d rs

  abbrev entry : Row → Entry Result
  entry r = record { row = r; val = built_result W d rs r }

  rows-count : t.rows ≡ length rs
  rows-count = length-map rs entry

  capped : t.rows ≤ row_cap
  capped = omega (arith, rows-count, k.bounds.capped, facts.rows)

  pub shown_is : shown_rows t ≡ t.rows
  shown_is = all_shown t capped

  clusters-built : clusters_in t ≡ clusters_of rs
  clusters-built = ap (map cl) (entries_table d (built_table W d rs)) ∙ map-through entry cl (λ (r : Row). r.cluster) (λ r. refl) rs

  pub rows_are : down_to (row_at t) t.rows ≡ rs
  rows_are =
      sym (down_map (λ (e : Entry Result). e.row) (entry_at t) t.rows)
      ∙ ap (map (λ (e : Entry Result). e.row)) (entries_table d (built_table W d rs))
      ∙ map-through entry (λ (e : Entry Result). e.row) (λ (r : Row). r) (λ r. refl) rs
      ∙ map-id rs

  pub clusters_down_lem : clusters_down t.clusters t.rows ≡ clusters_of rs
  clusters_down_lem = sym (clusters_are t t.rows) ∙ clusters-built

  pub rising : Rising t.clusters t.rows
  rising = record {
    long = omega (arith, (table-sized d (built_table W d rs) capped).clusters, capped);
    up = (is_fit→ W facts t (built-fit W facts d rs k)).rising;
  }

  pub row_at_lem : (i : ℕ) → i < t.rows → (r : Row) × Mem r rs × (entry r ≡ entry_at t i)
  row_at_lem i h =
      Memᴰ.of_map entry rs (subst (Mem (entry_at t i)) (entries_table d (built_table W d rs)) (down_mem (entry_at t) t.rows i h))

  -- ---- the leaf set and its row

  pub leaf_set_is : leaf_set (built_from W d rs) ≡ leaves rs
  leaf_set_is = ap (λ (n : ℕ). leaves (down_to (row_at t) n)) shown_is ∙ ap leaves rows_are

  pub leaf_row_iff : (leaf_row (built_from W d rs) < (built_from W d rs).rows) ↔ Mem (leaves rs) (clusters_of rs)
  leaf_row_iff = (to, from)
    where
      is : elem (leaf_set t) (clusters_in t) ≡ ltb (leaf_row t) t.rows
      is = has_row_is t capped (leaf_set t)

      listed : elem (leaf_set t) (clusters_in t) ≡ elem (leaves rs) (clusters_of rs)
      listed = ap₂ elem leaf_set_is clusters-built

      to : leaf_row t < t.rows → Mem (leaves rs) (clusters_of rs)
      to h = elem→ (leaves rs) (clusters_of rs) (subst T (sym is ∙ listed) (lt→ltb (leaf_row t) t.rows h))

      from : Mem (leaves rs) (clusters_of rs) → leaf_row t < t.rows
      from m = ltb→lt (leaf_row t) t.rows (subst T (sym listed ∙ is) (→elem (leaves rs) (clusters_of rs) m))

  pub leaf_row_is : leaf_row (built_from W d rs) < (built_from W d rs).rows → (r : Row) × Mem r rs × (r.cluster ≡ leaves rs)
      × (entry_at (built_from W d rs) (leaf_row (built_from W d rs)) ≡ record { row = r; val = built_result W d rs r })
  leaf_row_is h =
      let q = row_at_lem (leaf_row t) h in
      (q.0, q.1, ap cl q.2 ∙ place_of_at t capped (leaf_set t) h ∙ leaf_set_is, sym q.2)

  -- its results are those of the trees on the leaf set
  pub leaf_result_lem : leaf_row t < t.rows → (n : ℕ) × (result_at t (leaf_row t) ≡ tree_result W rs n (trees_of W d rs))
  leaf_result_lem h =
      let q = leaf_row_is h in
      let n = row_length d rs q.0 in (
        n,
        ap (λ (e : Entry Result). e.val) q.3
            ∙ ap (λ (c : ℕ). tree_result W rs n (trees_on W.taxa d (scored_in rs) c)) q.2,
      )

  -- ---- whether there is a tree

  count_of : (n c m : ℕ) (x : Option (List ℕ)) → (with_best rs n c m x).count ≡ c
  count_of n c m none = refl
  count_of n c m (some xs) = refl

  leaf-count : leaf_row t < t.rows → (result_at t (leaf_row t)).count ≡ count_field W.count_max (length (trees_of W d rs))
  leaf-count h =
      let q = leaf_result_lem h in
      ap (λ (v : Result). v.count) q.1 ∙ count_of q.0 _ _ (first_heaviest rs (trees_of W d rs))

  -- a tree has the leaf set, which is then listed
  pub leaf-listed : (xs : List ℕ) → Mem xs (trees_of W d rs) → leaf_row t < t.rows
  leaf-listed xs m =
      let tree = (tree_of (given_of W.taxa d rs k.facts) (leaves rs) xs m).1 in
      let q = mem-scored rs (leaves rs) (tree.listed (leaves rs) tree.top) in
      leaf_row_iff.1 (subst (λ (c : ℕ). Mem c (clusters_of rs)) q.3 (Memᴰ.map (λ (r : Row). r.cluster) q.1))

  count-zero : (count_field W.count_max (length (trees_of W d rs)) ≡ 0) ↔ (trees_of W d rs ≡ [])
  count-zero = count_iff W.taxa d rs k.facts (leaves rs) W.count_max facts.counts

  pub has_tree_iff : T (has_tree (built_from W d rs)) ↔ (trees_of W d rs ≢ [])
  has_tree_iff = (to, λ n. from n (dec_lt (leaf_row t) t.rows))
    where
      to : T (has_tree t) → trees_of W d rs ≢ []
      to h e = let q = has_tree→ t h in q.1 (leaf-count q.0 ∙ count-zero.1 e)

      from : trees_of W d rs ≢ [] → Dec (leaf_row t < t.rows) → T (has_tree t)
      from n (yes h) = true_T (has_tree-count t (leaf_row t) refl h (λ e. n (count-zero.0 (sym (leaf-count h) ∙ e))))
      from n (no f) = absurd (n (nil_of_none (trees_of W d rs) (λ xs m. f (leaf-listed xs m))))
