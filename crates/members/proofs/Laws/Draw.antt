-- What is drawn of a table, test by test.
--     has_tree→             there is a tree: the leaf set has a row, and its count isn't 0
--     has_tree_no_row, has_tree_no_count, has_tree-count     whether there is one, in turn
--     drawn_unfit, drawn_no_tree, drawn-marks, drawn-whole     what is drawn, by the tests in turn
--     nothing_refused      where all pass, no reason applies
--     is_same_refl, is_same→ weights that are the same
--     found_unscored, found_other, found_no_tree, found_tree     what is drawn of the leaf set's row, by the tests of its marks in turn
-- Assumes nothing.
use mathlib.Core.Path.{◌≡◌, sym, ap, ap₂, ◌∙◌}
use mathlib.Core.Logic.{◌≢◌}
use mathlib.Core.Bool.{Bool, true, false, not, ◌&&◌, and-false}
use mathlib.Core.List.{List, ◌++◌}
use mathlib.Core.Option.{Option, none, some}
use Prim.Native.Nat.{ℕ, ◌-◌, ◌≤◌, ◌<◌}
use native.Mathlib.Nat.{min-eq_left}
use borrow.Author.Tests.{eq-eqb, ne_eqb, lt-ltb, le-ltb}
use lib.Dec.{T, eqb, ltb, ltb→lt, T_not, not_T}
use lib.IntN.{ℤ}
use lib.ListN.{length, replicate, drop}
use lib.Signed.{lt_z}
use Rattle.laws.specs.Limits.{Width, row_cap}
use Rattle.laws.proofs.Integers.{lt_z_irrefl, tri, Tri}
use Rattle.laws.proofs.Tests.{T_and, and_T, T_true, T_false, neq→}
use Rattle.trees.specs.Tree.{is_tree}
use Rattle.std.specs.Prelude.{Ok, Err}
use Rattle.std.proofs.lemmas.List.{drop-replicate}
use Rattle.answers.specs.declared.refusal.Refusal.{Refusal}
use Rattle.answers.specs.declared.refusal.Refusal.TheVariants.{NoTree, Unfit}
use Rattle.answers.specs.Outcome.{Outcome, outcome_of, ended}
use Rattle.answers.specs.Reasons.{first_reason}
use Rattle.kept.specs.declared.table.Table.{Table}
use Rattle.kept.specs.View.{result_at}
use Rattle.kept.specs.Fit.{is_fit}
use Rattle.members.specs.declared.marks.Members.{Members}
use Rattle.members.specs.Marked.{marked_to, members_to, members_in, scored_to, weight_to, is_same}
use Rattle.members.specs.Draw.{leaf_row, has_tree, is_drawable, draw_reasons, DrawnMembers, no_members, drawn_members, drawn_tree}
use Rattle.members.specs.Gathered.{Gathered, Found}
use Rattle.members.proofs.Laws.Gathered.{gathered-size}

-- ---- whether there is a tree
pub has_tree→ : (t : Table) → T (has_tree t) → (leaf_row t < t.rows) × ((result_at t (leaf_row t)).count ≢ 0)
has_tree→ t h =
    let q = T_and (ltb (leaf_row t) t.rows) (not (eqb (result_at t (leaf_row t)).count 0)) h in
    (ltb→lt (leaf_row t) t.rows q.0, neq→ (result_at t (leaf_row t)).count 0 q.1)

module _ (t : Table) (i : ℕ) (e : i ≡ leaf_row t) where
  abbrev has_count : ℕ → Bool
  has_count k = ltb k t.rows && not (eqb (result_at t k).count 0)

  has_tree_at : has_tree t ≡ has_count i
  has_tree_at = ap has_count (sym e)

  pub has_tree_no_row : t.rows ≤ i → has_tree t ≡ false
  has_tree_no_row h = has_tree_at ∙ ap (λ (b : Bool). b && not (eqb (result_at t i).count 0)) (le-ltb i t.rows h)

  pub has_tree_no_count : (result_at t i).count ≡ 0 → has_tree t ≡ false
  has_tree_no_count h = has_tree_at ∙ ap (λ (b : Bool). ltb i t.rows && not b) (eq-eqb _ _ h) ∙ and-false (ltb i t.rows)

  pub has_tree-count : i < t.rows → (result_at t i).count ≢ 0 → has_tree t ≡ true
  has_tree-count h k = has_tree_at ∙ ap₂ (λ (a b : Bool). a && not b) (lt-ltb i t.rows h) (ne_eqb _ _ k)

-- ---- what is drawn, by the tests in turn
module _ (W : Width) (t : Table) where
  drawn_by : {f : Option Refusal} → first_reason (draw_reasons W t) ≡ f → drawn_tree W t ≡ ended f no_members 0 (drawn_members t)
  unfolding drawn_tree
  drawn_by e = ap (λ (f : Option Refusal). ended f no_members 0 (drawn_members t)) e

  pub drawn_unfit : is_fit W t ≡ false → drawn_tree W t ≡ outcome_of (Err Unfit) no_members
  drawn_unfit e = drawn_by {f = some Unfit} (rw e)

  pub drawn_no_tree : is_fit W t ≡ true → has_tree t ≡ false → drawn_tree W t ≡ outcome_of (Err NoTree) no_members
  drawn_no_tree e f = drawn_by {f = some NoTree} (rw (e, f))

  pub drawn-marks : is_fit W t ≡ true → has_tree t ≡ true → is_drawable W t ≡ false → drawn_tree W t ≡ outcome_of (Err Unfit) no_members
  drawn-marks e f g = drawn_by {f = some Unfit} (rw (e, f, g))

  pub nothing_refused : is_fit W t ≡ true → has_tree t ≡ true → is_drawable W t ≡ true → first_reason (draw_reasons W t) ≡ none
  nothing_refused e f g = rw (e, f, g)

  pub drawn-whole : is_fit W t ≡ true → has_tree t ≡ true → is_drawable W t ≡ true → drawn_tree W t ≡ outcome_of (Ok 0) (drawn_members t)
  drawn-whole e f g = drawn_by (nothing_refused e f g)

-- ---- weights that are the same
pub is_same_refl : (a : ℤ) → T (is_same a a)
is_same_refl a = and_T (not (lt_z a a)) (not (lt_z a a)) (not_T (lt_z a a) (lt_z_irrefl a)) (not_T (lt_z a a) (lt_z_irrefl a))

pub is_same→ : (a b : ℤ) → T (is_same a b) → a ≡ b
is_same→ a b h = go (tri a b) (T_and (not (lt_z a b)) (not (lt_z b a)) h)
  where
    go : Tri a b → T (not (lt_z a b)) × T (not (lt_z b a)) → a ≡ b
    go (Tri.less k) q = absurd (T_not (lt_z a b) q.0 k)
    go (Tri.same e) q = e
    go (Tri.more k) q = absurd (T_not (lt_z b a) q.1 k)

-- ---- what is drawn of the leaf set's row, by the tests of its marks in turn
module _ {W : Width} {t : Table} {c i : ℕ} (f : Found W t c i) where
  abbrev marks : ℕ
  marks = (result_at t i).members

  abbrev refused : Outcome DrawnMembers
  refused = outcome_of (Err Unfit) no_members

  abbrev drawable_at : ℕ → ℕ → ℕ → Bool
  drawable_at k n C =
      let m = (result_at t k).members in
      scored_to t.states m n
      && is_same (weight_to t.weights m n) (result_at t k).best
      && is_tree W.taxa t.degree C (members_to t.clusters m n)

  abbrev members_at : ℕ → ℕ → DrawnMembers
  members_at k n =
      let rows = marked_to (result_at t k).members n in record { row = k; clusters = members_in t.clusters rows; size = length rows }

  drawable_at_lem : is_drawable W t ≡ drawable_at i t.rows c
  drawable_at_lem = λ j. drawable_at (sym f.row j) (min-eq_left f.capped j) (sym f.top j)

  undrawn : drawable_at i t.rows c ≡ false → refused ≡ drawn_tree W t
  undrawn h = sym (drawn-marks W t f.fit f.tree (drawable_at_lem ∙ h))

  pub found_unscored : scored_to t.states marks t.rows ≡ false → refused ≡ drawn_tree W t
  found_unscored h = undrawn (rw h)

  module _ {r : Members} (g : Gathered t marks t.rows r) where
    tests_are : drawable_at i t.rows c ≡ (is_same r.weight (result_at t i).best && is_tree W.taxa t.degree c r.clusters.items)
    tests_are = λ j.
        g.scored j
        && is_same (sym g.weight j) (result_at t i).best
        && is_tree W.taxa t.degree c (sym g.clusters j)

    pub found_other : r.weight ≢ (result_at t i).best → refused ≡ drawn_tree W t
    found_other h = undrawn (tests_are ∙ rw (T_false (is_same r.weight (result_at t i).best) (λ k. h (is_same→ _ _ k))))

    module _ (b : r.weight ≡ (result_at t i).best) where
      tree_is : is_drawable W t ≡ is_tree W.taxa t.degree c r.clusters.items
      tree_is =
          drawable_at_lem ∙ tests_are ∙ rw (b, T_true (is_same (result_at t i).best (result_at t i).best) (is_same_refl (result_at t i).best))

      pub found_no_tree : is_tree W.taxa t.degree c r.clusters.items ≡ false → refused ≡ drawn_tree W t
      found_no_tree h = sym (drawn-marks W t f.fit f.tree (tree_is ∙ h))

      pub found_tree : is_tree W.taxa t.degree c r.clusters.items ≡ true
          → {n : ℕ} {copied : List ℕ} → n ≡ length r.clusters.items → copied ≡ r.clusters.items
          → outcome_of (Ok 0) (record { row = i; clusters = copied ++ drop n (replicate row_cap 0); size = n }) ≡ drawn_tree W t
      found_tree h {n} p q =
          let size = p ∙ gathered-size g in
          let front = q ∙ g.clusters in
          let zeros = drop-replicate n row_cap 0 ∙ ap (λ (k : ℕ). replicate (row_cap - k) 0) size in
          (λ j. outcome_of (Ok 0) (record { row = i; clusters = front j ++ zeros j; size = size j }))
          ∙ (λ j. outcome_of (Ok 0) (members_at (f.row j) (sym (min-eq_left f.capped) j)))
          ∙ sym (drawn-whole W t f.fit f.tree (tree_is ∙ h))
