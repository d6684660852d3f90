-- What is drawn of a table: the members of the leaf set's row, or why none are (RULES 8 and 9). Laws: `proofs/Laws/Draw.antt`.
--     leaf_row t            the row of the leaf set: the number of rows where it has none
--     leaf_result t         the results in it: all zero where the table is fit and there is none
--     has_tree t            the leaf set has a row, and its count isn't zero
--     leaf_marks t, marked_rows t     the marks of that row, and the rows marked in it, the last first
--     members_of t          their clusters, ascending
--     are_scored t          each of them is scored
--     weighs_best t         their weights add up to the row's best
--     is_drawable W t       both, and they are a tree on the leaf set
--     draw_reasons W t      why nothing is drawn: 8 (fitness), 7, 8 (marks) in that order
--     DrawnMembers         the leaf set's row, its members ascending in an array, zero past them, and how many they are
--     no_members, drawn_members t     nothing drawn, all zero; the members of the leaf set's row
--     drawn_tree W t        what is drawn; a success tells nothing
--     drawn_of r            the code's value or refusal as an outcome: on a refusal all is zero
-- Assumes nothing.
use Rattle.std.specs.Prelude.{Bool, not, ◌&&◌, List, [], ◌∷◌, ℕ, eqb, ltb, length}
use Rattle.std.specs.Prelude as prelude
use Rattle.laws.specs.Limits.{Width}
use Rattle.trees.specs.Tree.{is_tree}
use Rattle.trees.specs.Result.{Result}
use Rattle.answers.specs.declared.refusal.Refusal.{Refusal}
use Rattle.answers.specs.declared.refusal.Refusal.TheVariants.{NoTree, Unfit}
use Rattle.answers.specs.Outcome.{Outcome, result_of, ended}
use Rattle.answers.specs.Reasons.{Reason, when, first_reason}
use Rattle.kept.specs.declared.table.Table.{Table}
use Rattle.kept.specs.View.{result_at}
use Rattle.kept.specs.Fit.{is_fit}
use Rattle.kept.specs.Rows.{shown_rows, place_of, leaf_set}
use Rattle.members.specs.declared.draw.Drawn.{Drawn}
use Rattle.members.specs.Marked.{marked_to, members_to, members_in, scored_to, weight_to, is_same}

abbrev pub leaf_row : Table → ℕ
leaf_row t = place_of t (leaf_set t)

abbrev pub leaf_result : Table → Result
leaf_result t = result_at t (leaf_row t)

abbrev pub has_tree : Table → Bool
has_tree t = ltb (leaf_row t) t.rows && not (eqb (leaf_result t).count 0)

abbrev pub leaf_marks : Table → ℕ
leaf_marks t = (leaf_result t).members

abbrev pub marked_rows : Table → List ℕ
marked_rows t = marked_to (leaf_marks t) (shown_rows t)

abbrev pub members_of : Table → List ℕ
members_of t = members_to t.clusters (leaf_marks t) (shown_rows t)

abbrev pub are_scored : Table → Bool
are_scored t = scored_to t.states (leaf_marks t) (shown_rows t)

abbrev pub weighs_best : Table → Bool
weighs_best t = is_same (weight_to t.weights (leaf_marks t) (shown_rows t)) (leaf_result t).best

abbrev pub is_drawable : Width → Table → Bool
is_drawable W t = are_scored t && weighs_best t && is_tree W.taxa t.degree (leaf_set t) (members_of t)

abbrev pub draw_reasons : Width → Table → List Reason
draw_reasons W t = when (not (is_fit W t)) Unfit ∷ when (not (has_tree t)) NoTree ∷ when (not (is_drawable W t)) Unfit ∷ []

pub record DrawnMembers : Type 0 where
  pub row : ℕ
  pub clusters : List ℕ
  pub size : ℕ

abbrev pub no_members : DrawnMembers
no_members = record { row = 0; clusters = members_in [] []; size = 0 }

abbrev pub drawn_members : Table → DrawnMembers
drawn_members t = record { row = leaf_row t; clusters = members_in t.clusters (marked_rows t); size = length (marked_rows t) }

unfoldable pub drawn_tree : Width → Table → Outcome DrawnMembers
drawn_tree W t = ended (first_reason (draw_reasons W t)) no_members 0 (drawn_members t)

abbrev pub drawn_of : prelude.Result Drawn Refusal → Outcome DrawnMembers
drawn_of =
    result_of (λ (r : Drawn). 0) (λ (r : Drawn). record { row = r.row; clusters = r.clusters; size = r.size }) no_members
