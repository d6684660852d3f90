-- What is known where something is drawn of a table, for those who draw it (RULES 8 and 9). Shown in `proofs/Drawable.antt`.
--     Drawable W t      the table is fit, its leaf set has a row, and the members of that are a tree of its best weight
--     Success W t r     a success of `drawn_tree`: no reason applies, and r has the row and its members
-- Assumes nothing.
use Rattle.std.specs.Prelude.{◌≡◌, ◌≢◌, true, reverse, ℕ, ◌^◌, ◌≤◌, ◌<◌, T, length, take}
use Rattle.std.proofs.Math.Option.{none}
use mathlib.Core.List.{Memᴰ as Mem}
use Rattle.laws.specs.Limits.{Width}
use Rattle.laws.specs.Lists.{Once}
use Rattle.laws.specs.Orders.{Falling}
use Rattle.laws.specs.Row.{is_scored}
use Rattle.trees.specs.Tree.{is_tree}
use Rattle.answers.specs.Reasons.{first_reason}
use Rattle.kept.specs.declared.table.Table.{Table}
use Rattle.kept.specs.View.{row_at, result_at}
use Rattle.kept.specs.Fit.{is_fit}
use Rattle.kept.specs.Rows.{shown_rows, leaf_set}
use Rattle.members.specs.declared.draw.Drawn.{Drawn}
use Rattle.members.specs.Marked.{weight_to}
use Rattle.members.specs.Draw.{leaf_row, leaf_marks, members_of, draw_reasons}

pub record Drawable (W : Width) (t : Table) : Type 0 where
  pub fit : T (is_fit W t)
  pub row : leaf_row t < t.rows
  pub top : (row_at t (leaf_row t)).cluster ≡ leaf_set t
  pub counted : (result_at t (leaf_row t)).count ≢ 0
  pub tree : is_tree W.taxa t.degree (leaf_set t) (members_of t) ≡ true
  pub weighs : weight_to t.weights (leaf_marks t) (shown_rows t) ≡ (result_at t (leaf_row t)).best
  -- each member is the cluster of a scored row; they ascend, and none stands twice
  pub listed : (c : ℕ) → Mem c (members_of t) → (i : ℕ) × (i < t.rows) × (c ≡ (row_at t i).cluster) × T (is_scored (row_at t i))
  pub falls : Falling (reverse (members_of t))
  pub once : Once (members_of t)
  pub sound : (c : ℕ) → Mem c (members_of t) → (c ≢ 0) × (c < 2 ^ W.taxa)

pub record Success (W : Width) (t : Table) (r : Drawn) : Type 0 where
  pub unrefused : first_reason (draw_reasons W t) ≡ none
  pub table : Drawable W t
  pub row : r.row ≡ leaf_row t
  -- the members are the first of the array
  pub size : r.size ≡ length (members_of t)
  pub front : take r.size r.clusters ≡ members_of t
  pub fits : r.size ≤ length r.clusters
