-- The first heaviest tree on the leaf set of a built table is what the marks of its row say, and they may be drawn (RULES 5 and 9).
--     marks_tell       the marks of the clusters that pass a test, as a row of a built table has them, tell so row by row
--     is_tree_lem          it is a tree
--     leaf-best        the row's marks and best weight are its marks and weight
--     members_back, members_are     the marked clusters are the tree, backward: ascending
--     listed           its members are listed scored clusters, and a tree as a family
--     drawable         the marks are a tree of the row's best weight
-- Assumes nothing.
use mathlib.Core.Path.{◌≡◌, sym, ap, ap₂, ◌∙◌, subst}
use mathlib.Core.Bool.{Bool, true, ◌&&◌}
use mathlib.Core.Option.{some}
use mathlib.Core.List.{List, reverse}
use mathlib.Core.List.{Memᴰ as Mem}
use Prim.Native.Nat.{ℕ, ◌<◌}
use lib.Dec.{T}
use lib.IntN.{ℤ}
use lib.ListN.{get_or}
use Rattle.laws.specs.Limits.{Width}
use Rattle.laws.specs.Lists.{keep, elem, sublists}
use Rattle.laws.specs.Orders.{Falling}
use Rattle.laws.specs.State.{scored}
use Rattle.laws.specs.Row.{Row}
use Rattle.laws.specs.Widths.{WidthFacts}
use Rattle.laws.proofs.Down.{down_mem, down_falling}
use Rattle.laws.proofs.Falling.{in_turn_keep, falling_once, sublist_is_elem}
use Rattle.laws.proofs.Once.{map_inj}
use Rattle.laws.proofs.Tests.{and_T, T_true, true_T}
use Rattle.trees.specs.Rows.{clusters_of, scored_in, leaves, Entry, cl}
use Rattle.trees.specs.Tree.{is_tree}
use Rattle.trees.specs.Heaviest.{weight_of, first_heaviest}
use Rattle.trees.specs.Result.{Result, marks_in, marks_of}
use Rattle.trees.specs.Built.{with_best}
use Rattle.trees.proofs.Built.{sets}
use Rattle.trees.proofs.Formula.Rows.{given_of, mem-scored}
use Rattle.trees.proofs.Theorems.{best-is_tree}
use Rattle.trees.proofs.Sets.TreeFacts.{Given, Tree}
use Rattle.trees.proofs.Joined.TreeTest.{tree_of, tree→test}
use Rattle.trees.proofs.Ties.Marks.{marks-lt, marks_inj}
use Rattle.shapes.specs.Drawn.{ascending}
use Rattle.shapes.proofs.Backward.{is_tree-reverse}
use Rattle.shapes.proofs.Sorted.{ascending_is_reverse}
use Rattle.kept.specs.declared.table.Table.{Table}
use Rattle.kept.specs.View.{result_at, clusters_down}
use Rattle.kept.specs.Marks.{is_marked_in}
use Rattle.kept.specs.Rows.{shown_rows, leaf_set}
use Rattle.kept.specs.Arrays.{Rising}
use Rattle.kept.proofs.Laws.Clusters.{is_marked_in_is}
use Rattle.table.proofs.Laws.Build.{Buildable}
use Rattle.table.proofs.Rows.Marked.{marks_of-marked}
use Rattle.members.specs.Marked.{members_to, scored_to, weight_to, is_same}
use Rattle.members.specs.Draw.{leaf_row, leaf_marks, members_of, are_scored, weighs_best, is_drawable}
use Rattle.members.proofs.Laws.Draw.{is_same_refl}
use Rattle.members.proofs.Laws.Tells.{Tells, members_tell, scored_tell, weight_tell}
use Rattle.drawing.specs.Built.{built_from, trees_of}
use Rattle.drawing.proofs.LeafRow.{shown_is, rows_are, clusters_down_lem, rising, row_at_lem, leaf_set_is, leaf_result_lem, leaf-listed}

pub marks_tell : (cs : List ℕ) (n : ℕ) (p : ℕ → Bool) → Rising cs n → Tells cs (marks_in (clusters_down cs n) p) p n
marks_tell cs n p up i h =
    let l = clusters_down cs n in
    let m = marks_in l p in
    let falls = down_falling (λ (i : ℕ). get_or cs i 0) n up.up in
    let here = down_mem (λ (i : ℕ). get_or cs i 0) n i h in
    sym (marks_inj l p (is_marked_in l m) (marks_of-marked l m falls (marks-lt l p)) (get_or cs i 0) here ∙ is_marked_in_is cs n m i up h)

module _ (W : Width) (facts : WidthFacts W) (d : ℕ) (rs : List Row) (k : Buildable W d rs) where
  abbrev t : Table
  t = built_from W d rs

  abbrev given : Given
  given = given_of W.taxa d rs k.facts

  module _ (xs : List ℕ) (found : first_heaviest rs (trees_of W d rs) ≡ some xs) where
    abbrev is_in : ℕ → Bool
    is_in c = elem c xs

    pub is_tree_lem : Mem xs (trees_of W d rs)
    is_tree_lem = best-is_tree W.taxa d rs k.facts (leaves rs) xs found

    -- the row's marks and best weight are the tree's
    pub leaf-best : (leaf_marks t ≡ marks_of (clusters_of rs) xs) × ((result_at t (leaf_row t)).best ≡ weight_of rs xs)
    leaf-best =
        let q = leaf_result_lem W facts d rs k (leaf-listed W facts d rs k xs is_tree_lem) in
        let e = q.1 ∙ ap (with_best rs q.0 _ _) found in
        (ap (λ (v : Result). v.members) e, ap (λ (v : Result). v.best) e)

    tells : Tells t.clusters (leaf_marks t) is_in t.rows
    tells =
        subst (λ (m : ℕ). Tells t.clusters m is_in t.rows)
        (ap (λ (cs : List ℕ). marks_of cs xs) (clusters_down_lem W facts d rs k) ∙ sym leaf-best.0)
        (marks_tell t.clusters t.rows is_in (rising W facts d rs k))

    -- of all clusters, the tree keeps its members: so it falls
    kept : xs ≡ keep is_in (clusters_of rs)
    kept =
        sublist_is_elem (clusters_of rs) xs (falling_once (clusters_of rs) k.facts.falls)
        (sets W.taxa d rs k.facts (leaves rs) xs is_tree_lem)

    falls : Falling xs
    falls = subst Falling (sym kept) (in_turn_keep (λ (c x : ℕ). x < c) is_in (clusters_of rs) k.facts.falls)

    pub members_back : members_of t ≡ reverse xs
    members_back =
        ap (members_to t.clusters (leaf_marks t)) (shown_is W facts d rs k)
        ∙ members_tell (leaf_marks t) is_in t.clusters t.rows tells
        ∙ ap (λ (cs : List ℕ). reverse (keep is_in cs)) (clusters_down_lem W facts d rs k)
        ∙ ap reverse (sym kept)

    pub members_are : members_of (built_from W d rs) ≡ ascending xs
    members_are = members_back ∙ sym (ascending_is_reverse xs falls)

    -- ---- its marks may be drawn

    pub listed : Mem xs (sublists (scored_in rs)) × Tree given (leaves rs) is_in
    listed = tree_of given (leaves rs) xs is_tree_lem

    member_scored : (i : ℕ) → i < t.rows → T (is_in (get_or t.clusters i 0)) → T (scored (get_or t.states i 0))
    member_scored i h e =
        let at = row_at_lem W facts d rs k i h in
        let c = get_or t.clusters i 0 in
        let q = mem-scored rs c (listed.1.listed c e) in
        let once = falling_once (clusters_of rs) k.facts.falls in
        let same = map_inj (λ (r : Row). r.cluster) rs once q.0 at.0 q.1 at.1 (q.3 ∙ sym (ap cl at.2)) in
        subst (λ (s : ℕ). T (scored s)) (ap (λ (r : Row). r.state) same ∙ ap (λ (x : Entry Result). x.row.state) at.2) q.2

    members-scored : T (scored_to t.states (leaf_marks t) (shown_rows t))
    members-scored =
        subst (λ (n : ℕ). T (scored_to t.states (leaf_marks t) n)) (sym (shown_is W facts d rs k))
        (scored_tell (leaf_marks t) is_in t.clusters t.rows tells t.states member_scored)

    members-tree : is_tree W.taxa d (leaf_set t) (members_of t) ≡ true
    members-tree =
        ap₂ (is_tree W.taxa d) (leaf_set_is W facts d rs k) members_back
        ∙ is_tree-reverse xs W.taxa d (leaves rs)
        ∙ ap (is_tree W.taxa d (leaves rs)) (sublist_is_elem (scored_in rs) xs given.once listed.0)
        ∙ T_true _ (tree→test given (leaves rs) is_in listed.1)

    members-weight : weight_to t.weights (leaf_marks t) (shown_rows t) ≡ (result_at t (leaf_row t)).best
    members-weight =
        ap (weight_to t.weights (leaf_marks t)) (shown_is W facts d rs k)
        ∙ weight_tell (leaf_marks t) is_in t t.rows tells
        ∙ ap (λ (l : List Row). weight_of l xs) (rows_are W facts d rs k)
        ∙ sym leaf-best.1

    pub drawable : T (is_drawable W (built_from W d rs))
    drawable =
        let best = (result_at t (leaf_row t)).best in
        let weighs = subst (λ (z : ℤ). T (is_same z best)) (sym members-weight) (is_same_refl best) in
        and_T (are_scored t && weighs_best t) (is_tree W.taxa d (leaf_set t) (members_of t))
        (and_T (are_scored t) (weighs_best t) members-scored weighs) (true_T members-tree)
