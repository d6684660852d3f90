-- Looking up rows in a table of any value: rows past 128 are none. Laws: `proofs/Laws/Rows.antt`.
--     shown_rows t          how many rows there are to look at
--     place_among cs n c    the first of the first n places at which cs has c; n where none has
--     place_of t c          the row of the cluster c: the number of rows to look at where it has none
--     leaf_set t            the leaf set of a table: that of its rows
--     has_row t c           a row of the table has the cluster c
-- Assumes nothing.
use Rattle.std.specs.Prelude.{Bool, List, ℕ, min, eqb, get_or}
use Rattle.laws.specs.Lists.{elem}
use Rattle.laws.specs.Orders.{first_from, down_to}
use Rattle.laws.specs.Limits.{row_cap}
use Rattle.trees.specs.Rows.{leaves}
use Rattle.kept.specs.declared.table.Table.{Table}
use Rattle.kept.specs.View.{row_at, clusters_in}

abbrev pub shown_rows : Table → ℕ
shown_rows t = min t.rows row_cap

abbrev pub place_among : List ℕ → ℕ → ℕ → ℕ
place_among cs n c = first_from (λ (i : ℕ). eqb (get_or cs i 0) c) 0 n

abbrev pub place_of : Table → ℕ → ℕ
place_of t c = place_among t.clusters (shown_rows t) c

abbrev pub leaf_set : Table → ℕ
leaf_set t = leaves (down_to (row_at t) (shown_rows t))

abbrev pub has_row : Table → ℕ → Bool
has_row t c = elem c (clusters_in t)
