-- Tables column by column, as the laws of building and rescoring have them.
--     table_in               columns as a table
--     unworked_table         those of a list's rows, with no results
-- Assumes nothing.
use Rattle.std.specs.Prelude.{List, ℕ, ℤ, pos, replicate}
use Rattle.laws.specs.Limits.{row_cap}
use Rattle.kept.specs.declared.table.Table.{Table}

abbrev pub table_in : ℕ → ℕ → List ℕ → List ℤ → List ℕ → List ℕ → List ℕ → List ℕ → List ℤ → List ℕ → List ℕ → Table
table_in n d clusters weights states lengths counts marks bests lows highs = record {
  rows = n;
  clusters = clusters;
  weights = weights;
  states = states;
  lengths = lengths;
  counts = counts;
  marks = marks;
  bests = bests;
  members_low = lows;
  members_high = highs;
  degree = d;
}

abbrev pub unworked_table : ℕ → List ℕ → List ℤ → List ℕ → ℕ → Table
unworked_table n clusters weights states d =
    let zeros : List ℕ = replicate row_cap 0 in
    table_in n d clusters weights states zeros zeros zeros (replicate row_cap (pos 0)) zeros zeros
