-- What the private functions cite; no public promise does.
--     weight_span                    how far from zero a weight of 32 bits can be
--     Gathered t m n r              r has those of the first n rows of t that are marked in m, which are scored and few, and whose weight is
--                                   near zero
--     Found W t c i                 the table is fit, c is its leaf set, i the row of that, and there is a tree on it
-- Assumes nothing.
use Rattle.std.specs.Prelude.{◌≡◌, true, ℕ, ◌*◌, ◌^◌, ◌≤◌, ◌<◌, nat_abs, length}
use Rattle.laws.specs.Limits.{Width, row_cap}
use Rattle.kept.specs.declared.table.Table.{Table}
use Rattle.kept.specs.Fit.{is_fit}
use Rattle.kept.specs.Rows.{leaf_set}
use Rattle.members.specs.declared.marks.Members.{Members}
use Rattle.members.specs.Marked.{members_to, scored_to, weight_to}
use Rattle.members.specs.Draw.{leaf_row, has_tree}

abbrev pub weight_span : ℕ
weight_span = 2 ^ 31

pub record Gathered (t : Table) (m n : ℕ) (r : Members) : Type 0 where
  pub few : length r.clusters.items ≤ n
  pub clusters : r.clusters.items ≡ members_to t.clusters m n
  pub weight : r.weight ≡ weight_to t.weights m n
  pub near : nat_abs (weight_to t.weights m n) ≤ weight_span * n
  pub scored : scored_to t.states m n ≡ true

pub record Found (W : Width) (t : Table) (c i : ℕ) : Type 0 where
  pub fit : is_fit W t ≡ true
  pub capped : t.rows ≤ row_cap
  pub place : i < t.rows
  pub top : c ≡ leaf_set t
  pub row : i ≡ leaf_row t
  pub tree : has_tree t ≡ true
