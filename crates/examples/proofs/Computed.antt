-- The test of a case, which the checker computes, and that every case of the table passes it. What it shows stands in `Theorems.antt`.
--     is_none x, is_byte n     nothing is refused; a number is a byte
--     same_numbers xs ys      two lists have the same numbers
--     is_said x n             n is the number that is told, where one is told
--     takes x t, after x t   a rescoring is taken, where there is one; and the table then
--     has_row_told, has_output_told      the leaf set's row, and the tree and the text, are as told
--     is_told u e             what is drawn from u is as the ending says
--     ends_in c t u           a case, from its table as built and as rescored
--     holds_from c t          a case, from its table as built
--     quick_table c           the built table, computed
--     holds c                a case
--     cases_hold             every case holds
-- Assumes nothing.
use mathlib.Core.Path.{◌≡◌, refl}
use mathlib.Core.Bool.{Bool, true, false, not, ◌&&◌}
use mathlib.Core.Option.{Option, none, some}
use mathlib.Core.List.{List, [], ◌∷◌}
use Prim.Native.Nat.{ℕ}
use lib.Count.{ones, ones_in, count_trailing_zeros}
use lib.Dec.{eqb, ltb}
use Rattle.laws.specs.Cluster.{inside, apart, single}
use Rattle.laws.specs.Limits.{narrow}
use Rattle.laws.specs.Lists.{every}
use Rattle.laws.specs.Row.{Row}
use Rattle.laws.specs.State.{scored}
use Rattle.answers.specs.declared.refusal.Refusal.{Refusal}
use Rattle.answers.specs.declared.refusal.Refusal.TheVariants.{NoTree}
use Rattle.cluster.specs.Bytes.{byte_values}
use Rattle.answers.specs.Reasons.{first_reason}
use Rattle.answers.specs.Refusal.{number_of}
use Rattle.cluster.specs.Rule.{broken_rule, is_score}
use Rattle.lists.specs.Records.{rows_of}
use Rattle.trees.specs.Tree.{is_tree}
use Rattle.shapes.specs.Characters.{characters}
use Rattle.shapes.specs.Decimal.{figures}
use Rattle.shapes.specs.Drawn.{shape_of}
use Rattle.kept.specs.declared.table.Table.{Table}
use Rattle.kept.specs.View.{table_of}
use Rattle.kept.specs.Rows.{has_row}
use Rattle.table.specs.Build.{build_reasons}
use Rattle.table.specs.Rescore.{new_table}
use Rattle.members.specs.Marked.{is_same}
use Rattle.members.specs.Draw.{leaf_result, has_tree, members_of, is_drawable}
use Rattle.drawing.specs.Draw.{leaf_text}
use Rattle.examples.specs.Case.{ToldTree, Ending, refused, drawn, Case}
use Rattle.examples.specs.Cases.{cases}
use Rattle.examples.specs.Right.{list_of}
use Rattle.examples.proofs.Changed.{is_changed}
use Rattle.examples.proofs.Quick.{quick_rows}

abbrev pub is_none : Option Refusal → Bool
is_none none = true
is_none (some f) = false

abbrev pub is_byte : ℕ → Bool
is_byte n = ltb n byte_values

abbrev pub same_numbers : List ℕ → List ℕ → Bool
same_numbers [] [] = true
same_numbers [] (y ∷ ys) = false
same_numbers (x ∷ xs) [] = false
same_numbers (x ∷ xs) (y ∷ ys) = eqb x y && same_numbers xs ys

abbrev pub is_said : Option ℕ → ℕ → Bool
is_said none n = true
is_said (some m) n = eqb n m

-- ---- the rescoring
abbrev pub takes : Option Row → Table → Bool
takes none t = true
takes (some r) t = has_row t r.cluster && is_score r.weight r.state

abbrev pub after : Option Row → Table → Table
after none t = t
after (some r) t = new_table narrow t r.cluster r.weight r.state

-- ---- what is drawn
abbrev pub has_row_told : Table → ToldTree → Bool
has_row_told u x =
    eqb (leaf_result u).count x.count
    && eqb (leaf_result u).mark 0
    && is_same (leaf_result u).best x.weight
    && is_said x.row_length (leaf_result u).length

abbrev pub has_output_told : Table → ToldTree → Bool
has_output_told u x = same_numbers (members_of u) x.members && same_numbers (leaf_text u) (characters x.text)

abbrev pub is_told : Table → Ending → Bool
is_told u (refused n) = eqb n (number_of NoTree) && not (has_tree u)
is_told u (drawn x) = has_tree u && is_drawable narrow u && (has_row_told u x && has_output_told u x)

-- ---- the whole
abbrev pub ends_in : Case → Table → Table → Bool
ends_in c t u = is_changed t u c.changed && is_told u c.ending

abbrev pub holds_from : Case → Table → Bool
holds_from c t = takes c.rescoring t && ends_in c t (after c.rescoring t)

abbrev pub quick_table : Case → Table
quick_table c = table_of c.degree (quick_rows c.degree (rows_of narrow (list_of c)))

abbrev pub holds : Case → Bool
holds c = is_none (first_reason (build_reasons narrow (list_of c) c.degree)) && every is_byte (list_of c) && holds_from c (quick_table c)

pub cases_hold : every holds cases ≡ true
unfolding broken_rule is_score inside apart single ones ones_in count_trailing_zeros scored is_tree figures shape_of
cases_hold = refl
