-- A built row, by what a tree is and not by how it is worked out (RULES 5).
--     row_length d rs r       the number of tuples of listed scored clusters; 0 for one taxon or unscored
--     with_best               the fields from row length, count, mark and the first heaviest tree
--     tree_result W rs n ts   the fields of a row of length n whose cluster has the trees ts
--     built_result W d rs r   the fields of the row r in the table of the rows rs
--     built_table W d rs      every row with its fields
-- Assumes nothing.
use Rattle.std.specs.Prelude.{not, cond, ◌&&◌, List, map, ℕ, pos, length}
use Rattle.std.proofs.Math.Option.{Option, none, some}
use Rattle.laws.specs.Cluster.{single}
use Rattle.laws.specs.Limits.{Width}
use Rattle.laws.specs.Lists.{keep, sublists}
use Rattle.laws.specs.Row.{Row, is_scored}
use Rattle.trees.specs.Rows.{clusters_of, scored_in, Entry}
use Rattle.trees.specs.Tree.{trees_on}
use Rattle.trees.specs.Tuple.{is_tuple}
use Rattle.trees.specs.Heaviest.{weight_of, first_heaviest}
use Rattle.trees.specs.Result.{Result, count_field, mark_field, marks_of}

abbrev pub row_length : ℕ → List Row → Row → ℕ
row_length d rs r =
    cond (is_scored r && not (single r.cluster)) (length (keep (is_tuple d r.cluster) (sublists (scored_in rs)))) 0

-- best weight and member marks: of the first heaviest tree, all zero if there is none
abbrev pub with_best : List Row → ℕ → ℕ → ℕ → Option (List ℕ) → Result
with_best rs n c m none = record { length = n; count = c; mark = m; best = pos 0; members = 0 }
with_best rs n c m (some xs) = record { length = n; count = c; mark = m; best = weight_of rs xs; members = marks_of (clusters_of rs) xs }

abbrev pub tree_result : Width → List Row → ℕ → List (List ℕ) → Result
tree_result W rs n ts = with_best rs n (count_field W.count_max (length ts)) (mark_field W.count_max (length ts)) (first_heaviest rs ts)

abbrev pub built_result : Width → ℕ → List Row → Row → Result
built_result W d rs r = tree_result W rs (row_length d rs r) (trees_on W.taxa d (scored_in rs) r.cluster)

abbrev pub built_table : Width → ℕ → List Row → List (Entry Result)
built_table W d rs = map (λ (r : Row). record { row = r; val = built_result W d rs r }) rs
