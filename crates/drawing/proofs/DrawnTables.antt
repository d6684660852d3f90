-- What is drawn of the built table of rows: the first heaviest tree, and 7 exactly where there is none. Demand 2, of a list's bytes and
-- after any changes, rests on it (the crate `demands`). The tree: `LeafTree.antt`; the words: `specs/Built.antt`.
--     refused_iff            nothing is drawn, for want of a tree, exactly where there is none
--     drawn_iff              a tree is drawn exactly where there is one
--     draw_tree-none, draw_text-none     what is sent back where there is none
--     draw_tree_is, draw_text_is         and where xs is the first heaviest tree, in any room
--     draw_tree-fits, draw_text-fits     a room of so many numbers, or bytes, is always enough
-- Assumes nothing.
use mathlib.Core.Path.{◌≡◌, refl, sym, ap, ap₂, ◌∙◌}
use mathlib.Core.Logic.{◌⊎◌, inl, inr, ◌≢◌, ◌↔◌}
use mathlib.Core.Bool.{true}
use mathlib.Core.Option.{Option, none, some, none-ne-some}
use mathlib.Core.List.{List, [], ◌++◌}
use Prim.Native.Nat.{ℕ, ◌≤◌}
use native.Mathlib.Omega.{arith}
use lib.ListN.{length, drop}
use Rattle.laws.specs.Limits.{Width}
use Rattle.laws.specs.Row.{Row}
use Rattle.laws.specs.Widths.{WidthFacts}
use Rattle.laws.proofs.Keep.{empty-or}
use Rattle.laws.proofs.Tests.{T_true, T_false}
use Rattle.std.specs.Prelude.{Ok, Err}
use Rattle.answers.specs.declared.refusal.Refusal.{Refusal}
use Rattle.answers.specs.declared.refusal.Refusal.TheVariants.{NoTree}
use Rattle.answers.specs.Reasons.{first_reason}
use Rattle.answers.specs.Outcome.{outcome_of, written}
use Rattle.answers.proofs.Laws.Outcome.{written-whole}
use Rattle.trees.specs.Rows.{leaves}
use Rattle.trees.specs.Heaviest.{first_heaviest}
use Rattle.trees.proofs.Formula.Rows.{given_of}
use Rattle.trees.proofs.Sets.TreeFacts.{Given}
use Rattle.trees.proofs.Theorems.{best-some}
use Rattle.shapes.specs.Drawn.{ascending, text_of}
use Rattle.shapes.specs.Nests.{TreeOn}
use Rattle.shapes.proofs.Backward.{text-reverse}
use Rattle.shapes.proofs.Theorems.{trees_on_lem, text-length, list_length-le}
use Rattle.kept.specs.declared.table.Table.{Table}
use Rattle.kept.specs.Fit.{is_fit}
use Rattle.table.proofs.Fitting.FitTables.{built-fit}
use Rattle.table.proofs.Laws.Build.{Buildable}
use Rattle.members.specs.Draw.{has_tree, is_drawable, draw_reasons}
use Rattle.members.proofs.Laws.Draw.{nothing_refused}
use Rattle.drawing.specs.Draw.{draw_tree, draw_text}
use Rattle.drawing.specs.Built.{built_from, trees_of, list_max}
use Rattle.drawing.proofs.Laws.Draw.{tree-refused, tree-put, text-refused, text-put}
use Rattle.drawing.proofs.LeafRow.{leaf_set_is, has_tree_iff}
use Rattle.drawing.proofs.LeafTree.{is_tree_lem, members_back, members_are, listed, drawable}

module _ (W : Width) (facts : WidthFacts W) (d : ℕ) (rs : List Row) (k : Buildable W d rs) where
  abbrev t : Table
  t = built_from W d rs

  abbrev given : Given
  given = given_of W.taxa d rs k.facts

  -- why nothing is drawn
  abbrev why : Option Refusal
  why = first_reason (draw_reasons W t)

  -- ---- whether a tree is drawn

  is_fit_lem : is_fit W t ≡ true
  is_fit_lem = T_true (is_fit W t) (built-fit W facts d rs k)

  no_trees : trees_of W d rs ≡ [] → why ≡ some NoTree
  no_trees e = rw (is_fit_lem, T_false (has_tree t) (λ h. (has_tree_iff W facts d rs k).0 h e))

  some-tree : trees_of W d rs ≢ [] → why ≡ none
  some-tree n =
      let q = best-some W.taxa d rs k.facts (leaves rs) n in
      let found = T_true (has_tree t) ((has_tree_iff W facts d rs k).1 n) in
      nothing_refused W t is_fit_lem found (T_true (is_drawable W t) (drawable W facts d rs k q.0 q.1))

  pub refused_iff : (first_reason (draw_reasons W (built_from W d rs)) ≡ some NoTree) ↔ (trees_of W d rs ≡ [])
  refused_iff = (λ e. go e (empty-or (trees_of W d rs)), no_trees)
    where
      go : why ≡ some NoTree → (trees_of W d rs ≡ []) ⊎ (trees_of W d rs ≢ []) → trees_of W d rs ≡ []
      go e (inl n) = n
      go e (inr n) = absurd (none-ne-some NoTree (sym (some-tree n) ∙ e))

  pub drawn_iff : (first_reason (draw_reasons W (built_from W d rs)) ≡ none) ↔ (trees_of W d rs ≢ [])
  drawn_iff = (λ e n. none-ne-some NoTree (sym e ∙ no_trees n), some-tree)

  -- ---- what is drawn

  module _ (none-there : trees_of W d rs ≡ []) (l : List ℕ) where
    pub draw_tree-none : draw_tree W (built_from W d rs) l ≡ outcome_of (Err NoTree) l
    draw_tree-none = sym (tree-refused W t l (no_trees none-there))

    pub draw_text-none : draw_text W (built_from W d rs) l ≡ outcome_of (Err NoTree) l
    draw_text-none = sym (text-refused W t l (no_trees none-there))

  module _ (xs : List ℕ) (found : first_heaviest rs (trees_of W d rs) ≡ some xs) (l : List ℕ) where
    draws : why ≡ none
    draws = some-tree (λ e. none-ne-some xs (sym (ap (first_heaviest rs) e) ∙ found))

    tree_on_leaves : TreeOn xs (leaves rs)
    tree_on_leaves = trees_on_lem given facts.taxa (leaves rs) xs (is_tree_lem W facts d rs k xs found)

    pub draw_tree_is : draw_tree W (built_from W d rs) l ≡ written [] (ascending xs) l
    draw_tree_is = sym (tree-put W t l draws) ∙ ap (λ (out : List ℕ). written [] out l) (members_are W facts d rs k xs found)

    pub draw_text_is : draw_text W (built_from W d rs) l ≡ written [] (text_of xs (leaves rs)) l
    draw_text_is =
        sym (text-put W t l draws)
        ∙ ap (λ (out : List ℕ). written [] out l)
        (ap₂ text_of (members_back W facts d rs k xs found) (leaf_set_is W facts d rs k) ∙ text-reverse xs (leaves rs) tree_on_leaves)

    pub draw_tree-fits : list_max W ≤ length l → let out = ascending xs in
        draw_tree W (built_from W d rs) l ≡ outcome_of (Ok (length out)) (out ++ drop (length out) l)
    draw_tree-fits h =
        let short = list_length-le given (leaves rs) xs (is_tree_lem W facts d rs k xs found) in
        draw_tree_is ∙ written-whole [] (ascending xs) l refl (omega (arith, short))

    pub draw_text-fits : W.text_bytes ≤ length l → let out = text_of xs (leaves rs) in
        draw_text W (built_from W d rs) l ≡ outcome_of (Ok (length out)) (out ++ drop (length out) l)
    draw_text-fits h =
        let tree = (listed W facts d rs k xs found).1 in
        let small = (given.sound (leaves rs) (tree.listed (leaves rs) tree.top)).1 in
        let short = text-length xs (leaves rs) tree_on_leaves W facts small in
        draw_text_is ∙ written-whole [] (text_of xs (leaves rs)) l refl (omega (arith, short))
