-- The table as rows with their results, and rows with their results as a table (RULES 5). Laws: `proofs/Laws/View.antt`.
--     row_at, result_at, entry_at row i of a table: what was listed, what was worked out, both
--     entries_of t n            the first n rows, the largest cluster first
--     clusters_in t             the clusters of its rows
--     clusters_down cs n        the first n clusters of an array, the largest first
--     table_of d es             the table with degree bound d and the rows es: ascending, and all zero past them
--     zero_table                the all-zero table
-- Assumes nothing.
use Rattle.std.specs.Prelude.{List, [], map, ℕ, ◌+◌, ◌*◌, ◌/◌, ◌%◌, pos, get_or, length}
use Rattle.laws.specs.Column.{column}
use Rattle.laws.specs.Limits.{word_values}
use Rattle.laws.specs.Orders.{down_to}
use Rattle.laws.specs.Row.{Row}
use Rattle.trees.specs.Rows.{Entry, cl}
use Rattle.trees.specs.Result.{Result}
use Rattle.kept.specs.declared.table.Table.{Table}

abbrev pub row_at : Table → ℕ → Row
row_at t i = record { cluster = get_or t.clusters i 0; weight = get_or t.weights i (pos 0); state = get_or t.states i 0 }

abbrev pub result_at : Table → ℕ → Result
result_at t i = record {
  length = get_or t.lengths i 0;
  count = get_or t.counts i 0;
  mark = get_or t.marks i 0;
  best = get_or t.bests i (pos 0);
  members = get_or t.members_low i 0 + word_values * get_or t.members_high i 0;
}

abbrev pub entry_at : Table → ℕ → Entry Result
entry_at t i = record { row = row_at t i; val = result_at t i }

abbrev pub entries_of : Table → ℕ → List (Entry Result)
entries_of t = down_to (entry_at t)

abbrev pub clusters_in : Table → List ℕ
clusters_in t = map cl (entries_of t t.rows)

abbrev pub clusters_down : List ℕ → ℕ → List ℕ
clusters_down cs = down_to (λ (i : ℕ). get_or cs i 0)

abbrev pub table_of : ℕ → List (Entry Result) → Table
table_of d es = record {
  degree = d;
  rows = length es;
  clusters = column 0 (λ (e : Entry Result). e.row.cluster) es;
  weights = column (pos 0) (λ (e : Entry Result). e.row.weight) es;
  states = column 0 (λ (e : Entry Result). e.row.state) es;
  lengths = column 0 (λ (e : Entry Result). e.val.length) es;
  counts = column 0 (λ (e : Entry Result). e.val.count) es;
  marks = column 0 (λ (e : Entry Result). e.val.mark) es;
  bests = column (pos 0) (λ (e : Entry Result). e.val.best) es;
  members_low = column 0 (λ (e : Entry Result). e.val.members % word_values) es;
  members_high = column 0 (λ (e : Entry Result). e.val.members / word_values) es;
}

abbrev pub zero_table : Table
zero_table = table_of 0 []
