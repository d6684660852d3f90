-- What the rows of a built table tell, in words: demand 2 of each row.
--     rows_tell      the built table of a list tells its trees
-- Assumes nothing.
use mathlib.Core.Path.{◌≡◌, refl, sym, subst}
use mathlib.Core.Logic.{◌↔◌}
use mathlib.Core.Option.{Option, none, some}
use mathlib.Core.List.{List}
use mathlib.Core.List.{Memᴰ as Mem}
use Prim.Native.Nat.{ℕ, ◌<◌}
use lib.ListN.{length}
use Rattle.laws.specs.Limits.{Width}
use Rattle.laws.specs.Orders.{down_to}
use Rattle.laws.specs.Row.{Row}
use Rattle.laws.specs.Widths.{WidthFacts}
use Rattle.laws.proofs.Down.{down_mem, mem_down}
use Rattle.laws.proofs.Keep.{nil_of_none}
use Rattle.trees.specs.Rows.{Entry}
use Rattle.trees.specs.Heaviest.{first_heaviest}
use Rattle.trees.specs.Result.{Result, count_field, mark_field}
use Rattle.trees.specs.Built.{row_length, with_best, tree_result, built_result}
use Rattle.lists.specs.Records.{rows_of}
use Rattle.kept.specs.declared.table.Table.{Table}
use Rattle.kept.specs.View.{row_at, result_at}
use Rattle.kept.proofs.Laws.Fit.{is_fit→}
use Rattle.table.proofs.Fitting.FitTables.{built-fit}
use Rattle.table.proofs.Laws.Build.{Buildable}
use Rattle.drawing.specs.Built.{built_from}
use Rattle.drawing.proofs.LeafRow.{rows_are, row_at_lem, leaf_set_is, leaf_result_lem, leaf-listed}
use Rattle.demands.specs.Demands.{RowsTell}
use Rattle.demands.specs.Trees.{leaf_set_of, trees_at, trees_of_list, TellsTrees}
use Rattle.demands.proofs.Drawn.Every.{every-tree}
use Rattle.demands.proofs.Drawn.First.{→found, first_there, tells}

module _ (W : Width) (facts : WidthFacts W) (d : ℕ) (l : List ℕ) (k : Buildable W d (rows_of W l)) where
  abbrev rs : List Row
  rs = rows_of W l

  abbrev t : Table
  t = built_from W d rs

  -- what is so of the entry of a row of the list is so of each row of the table
  each_row : (P : Row → Result → Type 0) → ((r : Row) → P r (built_result W d rs r)) → (i : ℕ) → i < t.rows → P (row_at t i) (result_at t i)
  each_row P f i h =
      let q = row_at_lem W facts d rs k i h in subst (λ (e : Entry Result). P e.row e.val) q.2 (f q.0)

  listed : (r : Row) → ((i : ℕ) × (i < t.rows) × (row_at t i ≡ r)) ↔ Mem r rs
  listed r = (
    λ q. subst (Mem r) (rows_are W facts d rs k)
        (subst (λ (x : Row). Mem x (down_to (row_at t) t.rows)) q.2 (down_mem (row_at t) t.rows q.0 q.1)),
    λ m. let q = mem_down (row_at t) t.rows r (subst (Mem r) (sym (rows_are W facts d rs k)) m) in (q.0, q.1, sym q.2),
  )

  row-tells : (r : Row) → TellsTrees W rs (trees_at W d l r.cluster) (built_result W d rs r)
  row-tells r =
      let C = r.cluster in
      tells W rs (row_length d rs r) (trees_at W d l C) (→found W.taxa d rs k.facts C) (first_there W.taxa d rs k.facts C)

  with_length : (n c m : ℕ) (x : Option (List ℕ)) → (with_best rs n c m x).length ≡ n
  with_length n c m none = refl
  with_length n c m (some xs) = refl

  row_length_lem : (n : ℕ) (ts : List (List ℕ)) → (tree_result W rs n ts).length ≡ n
  row_length_lem n ts =
      with_length n (count_field W.count_max (length ts)) (mark_field W.count_max (length ts)) (first_heaviest rs ts)

  pub rows_tell : RowsTell W d l (built_from W d (rows_of W l))
  rows_tell = record {
    degree = refl;
    fit = is_fit→ W facts t (built-fit W facts d rs k);
    rows = listed;
    all-trees = every-tree W d l k.facts;
    each = each_row (λ r v. TellsTrees W rs (trees_at W d l r.cluster) v) row-tells;
    lengths = each_row (λ r v. v.length ≡ row_length d rs r) (λ r. row_length_lem (row_length d rs r) (trees_at W d l r.cluster));
    leaf_set_lem = leaf_set_is W facts d rs k;
    leaf = λ h. let q = leaf_result_lem W facts d rs k h in
        subst (TellsTrees W rs (trees_of_list W d l)) (sym q.1)
        (tells W rs q.0 (trees_of_list W d l) (→found W.taxa d rs k.facts (leaf_set_of W l))
        (first_there W.taxa d rs k.facts (leaf_set_of W l)));
    no_leaf = λ n. nil_of_none (trees_of_list W d l) (λ xs m. n (leaf-listed W facts d rs k xs m));
  }
