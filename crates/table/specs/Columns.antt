-- The arrays that the private search of tuples reads, and the tuples that it sums.
--     Columns, columns_of t      the arrays, and those of a table
--     column_row, fields_of           row i of the columns: its cluster and state, and its results (weight and row length play no part)
--     part_at, parts_of           row i as one part of a tuple, and the first n rows, the largest first; part_tally is the code's form
--     sum_covers left rest es    over the covers of `rest` by at most `left` of the scored entries: how many there are, and the sum of the
--                               products of their counts and keys
-- Assumes nothing.
use Rattle.std.specs.Prelude.{List, ℕ, ◌+◌, ◌*◌, ℤ, pos, get_or}
use Rattle.laws.specs.Lists.{keep}
use Rattle.laws.specs.Orders.{down_to}
use Rattle.laws.specs.Limits.{word_values}
use Rattle.laws.specs.Row.{Row}
use Rattle.trees.specs.Rows.{Entry, sc}
use Rattle.trees.specs.Result.{Result}
use Rattle.trees.specs.Kind.{Kind, over_tuples, pair_kind}
use Rattle.trees.specs.Cover.{covers_of}
use Rattle.trees.specs.Solution.{count_kind, sol_kind, Res}
use Rattle.kept.specs.declared.table.Table.{Table}
use Rattle.table.specs.declared.tally.Tally.{Tally}
use Rattle.table.specs.Tally.{decoded}

pub record Columns : Type 0 where
  pub clusters : List ℕ
  pub states : List ℕ
  pub counts : List ℕ
  pub marks : List ℕ
  pub bests : List ℤ
  pub lows : List ℕ
  pub highs : List ℕ

abbrev pub columns : List ℕ → List ℕ → List ℕ → List ℕ → List ℤ → List ℕ → List ℕ → Columns
columns c s n m b l h = record { clusters = c; states = s; counts = n; marks = m; bests = b; lows = l; highs = h }

abbrev pub columns_of : Table → Columns
columns_of t = columns t.clusters t.states t.counts t.marks t.bests t.members_low t.members_high

abbrev pub column_row : Columns → ℕ → Row
column_row k i = record { cluster = get_or k.clusters i 0; weight = pos 0; state = get_or k.states i 0 }

abbrev pub fields_of : Columns → ℕ → Result
fields_of k i = record {
  length = 0;
  count = get_or k.counts i 0;
  mark = get_or k.marks i 0;
  best = get_or k.bests i (pos 0);
  members = get_or k.lows i 0 + word_values * get_or k.highs i 0;
}

abbrev pub part_at : Columns → ℕ → Entry Res
part_at k i = record { row = column_row k i; val = (1, decoded (fields_of k i)) }

-- the code's own form of a part
abbrev pub part_tally : Columns → ℕ → Tally
part_tally k i = record {
  tuples = 1;
  count = get_or k.counts i 0;
  mark = get_or k.marks i 0;
  best = get_or k.bests i (pos 0);
  low = get_or k.lows i 0;
  high = get_or k.highs i 0;
}

abbrev pub parts_of : Columns → ℕ → List (Entry Res)
parts_of k = down_to (part_at k)

-- numbers of tuples beside counts with keys; a row's own value plays no part in the sums
abbrev pub sum_kind : Kind Res
sum_kind = pair_kind count_kind (sol_kind (λ (c : ℕ). 0))

unfoldable pub sum_covers : ℕ → ℕ → List (Entry Res) → Res
sum_covers left rest es = over_tuples sum_kind (covers_of left rest (keep sc es))
