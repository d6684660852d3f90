-- What a list's rows have to be drawn, stated by its trees (RULES 3 and 9). Laws: `proofs/LeafRow.antt`; the theorems stand in
-- `proofs/DrawnTables.antt`, and in the crate `demands`.
--     built_from W d rs     the built table of rows
--     trees_of W d rs       the trees on the leaf set of rows
--     list_max W            the most clusters that a tree has
-- Assumes nothing.
use Rattle.std.specs.Prelude.{List, ℕ, ◌-◌, ◌*◌}
use Rattle.laws.specs.Limits.{Width}
use Rattle.laws.specs.Row.{Row}
use Rattle.trees.specs.Rows.{scored_in, leaves}
use Rattle.trees.specs.Tree.{trees_on}
use Rattle.trees.specs.Built.{built_table}
use Rattle.kept.specs.declared.table.Table.{Table}
use Rattle.kept.specs.View.{table_of}

abbrev pub built_from : Width → ℕ → List Row → Table
built_from W d rs = table_of d (built_table W d rs)

abbrev pub trees_of : Width → ℕ → List Row → List (List ℕ)
trees_of W d rs = trees_on W.taxa d (scored_in rs) (leaves rs)

-- a tree has at most two clusters for each taxon, less one: 63
abbrev pub list_max : Width → ℕ
list_max W = 2 * W.taxa - 1
