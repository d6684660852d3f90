-- The words on blank lanes: records without a score (RULES 2, 3 and 12).
--     table_for W d l         the table that is built of a list
--     SameScored W l m       two lists have the same scored records, whatever else they name
--     SameTrees W d l m      they have the same leaf set, trees, row lengths, count, best weight, tree and text
--     SameAnswers d l m      and the same line
--     TaxonAfter t c s x     taxon x is one of a scored cluster, once the cluster c of the table t has state s
-- Assumes nothing.
use Rattle.std.specs.Prelude.{◌≡◌, ◌⊎◌, ◌≢◌, ◌↔◌, ℕ, ◌^◌, ◌<◌, T}
use mathlib.Core.List.{List, Memᴰ as Mem}
use Rattle.laws.specs.Cluster.{inside}
use Rattle.laws.specs.Limits.{Width, narrow}
use Rattle.laws.specs.Row.{Row, is_scored}
use Rattle.laws.specs.State.{scored}
use Rattle.trees.specs.Heaviest.{weight_of, tie_first}
use Rattle.trees.specs.Built.{row_length}
use Rattle.lists.specs.Records.{rows_of}
use Rattle.kept.specs.declared.table.Table.{Table}
use Rattle.kept.specs.View.{row_at}
use Rattle.members.specs.Draw.{leaf_result}
use Rattle.table.specs.Build.{build_table}
use Rattle.drawing.specs.Draw.{draw_tree, draw_text}
use Rattle.report.specs.Line.{line_into}
use Rattle.demands.specs.Trees.{leaf_set_of, trees_at, trees_of_list, FirstBy}

-- ---- two lists

module _ (W : Width) where
  abbrev pub table_for : ℕ → List ℕ → Table
  table_for d l = (build_table W l d).given

  abbrev pub SameScored : List ℕ → List ℕ → Type 0
  SameScored l m = (r : Row) → T (is_scored r) → Mem r (rows_of W l) ↔ Mem r (rows_of W m)

  pub record SameTrees (d : ℕ) (l m : List ℕ) : Type 0 where
    -- the leaf set; the trees on every cluster, and those of the list; how many tuples a row has; what trees weigh, and the one that is
    -- drawn
    pub leaf_set_lem : leaf_set_of W l ≡ leaf_set_of W m
    pub trees_at_lem : (C : ℕ) → trees_at W d l C ≡ trees_at W d m C
    pub trees : trees_of_list W d l ≡ trees_of_list W d m
    pub lengths : (r : Row) → row_length d (rows_of W l) r ≡ row_length d (rows_of W m) r
    pub weights : (ys : List ℕ) → Mem ys (trees_of_list W d l) → weight_of (rows_of W l) ys ≡ weight_of (rows_of W m) ys
    pub first : (ys : List ℕ) → FirstBy tie_first (rows_of W l) (trees_of_list W d l) ys
        ↔ FirstBy tie_first (rows_of W m) (trees_of_list W d m) ys
    -- what their tables tell in the leaf set's row, and what is drawn of them
    pub count : (leaf_result (table_for d l)).count ≡ (leaf_result (table_for d m)).count
    pub mark : (leaf_result (table_for d l)).mark ≡ (leaf_result (table_for d m)).mark
    pub best : (leaf_result (table_for d l)).best ≡ (leaf_result (table_for d m)).best
    pub tree : (room : List ℕ) → draw_tree W (table_for d l) room ≡ draw_tree W (table_for d m) room
    pub text : (room : List ℕ) → draw_text W (table_for d l) room ≡ draw_text W (table_for d m) room

-- and what is printed of them
pub record SameAnswers (d : ℕ) (l m : List ℕ) : Type 0 where
  pub trees : SameTrees narrow d l m
  pub line : (room : List ℕ) → line_into l d room ≡ line_into m d room

-- ---- one rescoring

abbrev pub TaxonAfter : Table → ℕ → ℕ → ℕ → Type 0
TaxonAfter t c s x =
    (T (scored s) × T (inside (2 ^ x) c))
    ⊎ ((i : ℕ) × (i < t.rows) × ((row_at t i).cluster ≢ c) × T (is_scored (row_at t i)) × T (inside (2 ^ x) (row_at t i).cluster))
