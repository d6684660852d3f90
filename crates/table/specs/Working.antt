-- What the private functions that work rows out cite: one row over the columns beneath it, and every row that contains a cluster.
--     worked_tally W k z i d     row i of the columns, with the weight z, from the rows beneath, as the code has it; that it is the rules'
--                               row: `proofs/Rows/WorkedRow.antt`
--     again_table W t c          the table with every row that contains c worked out again, by the rules' formulas
--     Ready, Workable           what each may count on
-- Assumes nothing.
use Rattle.std.specs.Prelude.{cond, List, ℕ, ◌-◌, ◌≤◌, ◌<◌, T, ℤ, nat_abs, get_or}
use Rattle.laws.specs.Cluster.{inside, single}
use Rattle.laws.specs.Limits.{Width, weight_max, is_degree, row_cap, word_values}
use Rattle.laws.specs.State.{scored}
use Rattle.cluster.specs.Rule.{keeps_rules}
use Rattle.trees.specs.Rescored.{worked_out, again}
use Rattle.kept.specs.declared.table.Table.{Table}
use Rattle.kept.specs.View.{row_at, entry_at, entries_of, clusters_in, clusters_down, table_of}
use Rattle.kept.specs.Blank.{is_empty}
use Rattle.kept.specs.Fit.{fit_entry}
use Rattle.kept.specs.Arrays.{Rising, Sized}
use Rattle.kept.specs.Facts.{Bounded}
use Rattle.table.specs.declared.tally.Tally.{Tally}
use Rattle.table.specs.Tally.{tally_of, own_tally}
use Rattle.table.specs.Searched.{Starts, WordsIn, Sound}
use Rattle.table.specs.Columns.{Columns, parts_of, sum_covers}
use Rattle.table.specs.Sums.{no_tally, under_tally}

-- what the search adds up over the tuples of row i
abbrev pub found_tally : Width → Columns → ℕ → ℕ → Tally
found_tally W k i d = tally_of W.count_max (sum_covers (d - 1) (get_or k.clusters i 0) (parts_of k i))

abbrev pub worked_tally : Width → Columns → ℤ → ℕ → ℕ → Tally
worked_tally W k z i d =
    cond (scored (get_or k.states i 0))
    (cond (single (get_or k.clusters i 0)) (own_tally 0 z i) (under_tally W.count_max (own_tally 1 z i) (found_tally W k i d)))
    no_tally

abbrev pub again_table : Width → Table → ℕ → Table
again_table W t c = table_of t.degree (again (worked_out W t.degree (clusters_in t)) c (entries_of t t.rows))

-- ---- what working out one row may count on
-- the rows beneath row i are sound among all rows, of which the columns have at least those up to row i
pub record Ready (W : Width) (k : Columns) (starts : List ℕ) (z : ℤ) (i d : ℕ) : Type 0 where
  pub rows : ℕ
  pub place : i < rows
  pub capped : rows ≤ row_cap
  pub sound : Sound W.count_max k (clusters_down k.clusters rows) i
  pub words : WordsIn k.lows rows
  pub rising : Rising k.clusters rows
  pub begins : Starts k.clusters rows starts
  pub nonzero : 0 < get_or k.clusters i 0
  pub small : get_or k.clusters i 0 < word_values
  pub degree : T (is_degree d)
  pub light : nat_abs z ≤ weight_max

-- ---- what working out a table may count on
-- the rows that don't contain c are fit; the others are to be worked out
pub record Workable (W : Width) (t : Table) (c : ℕ) : Type 0 where
  pub bounds : Bounded W t.degree t.rows
  pub sized : Sized t
  pub rising : Rising t.clusters t.rows
  pub rules : (i : ℕ) → i < t.rows → T (keeps_rules W (row_at t i))
  pub fit : (i : ℕ) → i < t.rows → (T (inside c (row_at t i).cluster) → ⊥) → T (fit_entry W (clusters_in t) (entry_at t i))
  pub words : WordsIn t.members_low t.rows
  pub blank : (i : ℕ) → t.rows ≤ i → i < row_cap → T (is_empty (entry_at t i))
