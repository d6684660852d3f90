-- Two lists with the same scored records have the same trees, whatever else they name.
--     Two               two such lists, built by one degree bound
--     same-trees        the record of `specs/Lanes.antt`, for any width
-- Assumes nothing.
use mathlib.Core.Path.{◌≡◌, sym, ap, ap₂, ◌∙◌, subst}
use mathlib.Core.Logic.{◌⊎◌, inl, inr, ◌≢◌}
use mathlib.Core.Bool.{not, cond, ◌&&◌}
use mathlib.Core.List.{List, []}
use mathlib.Core.List.{Memᴰ as Mem}
use Prim.Native.Nat.{ℕ}
use lib.Dec.{T}
use lib.ListN.{length}
use Rattle.laws.specs.Cluster.{single, union_of}
use Rattle.laws.specs.Limits.{Width, is_degree}
use Rattle.laws.specs.Lists.{keep, sublists}
use Rattle.laws.specs.Row.{Row, is_scored}
use Rattle.laws.specs.Widths.{WidthFacts}
use Rattle.laws.proofs.Falling.{falling_once}
use Rattle.laws.proofs.Keep.{mem-keep, mem_of_keep, empty-or}
use Rattle.trees.specs.Rows.{clusters_of, scored_in}
use Rattle.trees.specs.Tree.{trees_on}
use Rattle.trees.specs.Tuple.{is_tuple}
use Rattle.trees.specs.Heaviest.{weight_of, tie_first}
use Rattle.trees.specs.Result.{Result}
use Rattle.trees.specs.Built.{row_length}
use Rattle.trees.proofs.Formula.Rows.{scored-falls}
use Rattle.trees.proofs.Formula.Scored.{weight-scored}
use Rattle.lists.specs.Records.{rows_of}
use Rattle.lists.proofs.Laws.Rows.{falling_only}
use Rattle.kept.specs.declared.table.Table.{Table}
use Rattle.members.specs.Draw.{leaf_result}
use Rattle.table.specs.Changes.{AcceptedBytes}
use Rattle.table.proofs.Laws.Build.{Buildable, buildable}
use Rattle.table.proofs.Theorems.{built_table_lem}
use Rattle.drawing.specs.Built.{built_from}
use Rattle.drawing.specs.Draw.{draw_tree, draw_text}
use Rattle.drawing.proofs.DrawnTables.{draw_tree-none, draw_text-none}
use Rattle.demands.specs.Trees.{leaf_set_of, trees_at, trees_of_list, FirstBy, TellsTrees}
use Rattle.demands.specs.Lanes.{table_for, SameScored, SameTrees}
use Rattle.demands.proofs.Drawn.First.{first_there}
use Rattle.demands.proofs.Drawn.Told.{rows_tell}
use Rattle.demands.proofs.Drawn.Draws.{draws}
use Rattle.demands.proofs.Lanes.Tells.{first_by, same_count, same-best, leaf-tells}

-- two lists that are built by one degree bound, and have the same scored records
pub record Two (W : Width) (d : ℕ) (l m : List ℕ) : Type 0 where
  pub facts : WidthFacts W
  pub degree : T (is_degree d)
  pub one : AcceptedBytes W l
  pub other : AcceptedBytes W m
  pub same : SameScored W l m

module _ {W : Width} {d : ℕ} {l m : List ℕ} (two : Two W d l m) where
  abbrev facts : WidthFacts W
  facts = two.facts

  abbrev rs : List Row
  rs = rows_of W l

  abbrev qs : List Row
  qs = rows_of W m

  k : Buildable W d (rows_of W l)
  k = buildable facts two.degree two.one.byte two.one.accepted

  j : Buildable W d (rows_of W m)
  j = buildable facts two.degree two.other.byte two.other.accepted

  -- ---- the scored rows, and so the trees and what they weigh

  scored-same : keep is_scored rs ≡ keep is_scored qs
  scored-same =
      falling_only (keep is_scored rs) (keep is_scored qs) (scored-falls rs k.facts.falls)
      (scored-falls qs j.facts.falls) (record { to = to; from = from })
    where
      to : (r : Row) → Mem r (keep is_scored rs) → Mem r (keep is_scored qs)
      to r h = let q = mem_of_keep is_scored rs h in mem-keep is_scored qs ((two.same r q.1).0 q.0) q.1

      from : (r : Row) → Mem r (keep is_scored qs) → Mem r (keep is_scored rs)
      from r h = let q = mem_of_keep is_scored qs h in mem-keep is_scored rs ((two.same r q.1).1 q.0) q.1

  clusters-same : scored_in rs ≡ scored_in qs
  clusters-same = ap clusters_of scored-same

  leaves-same : leaf_set_of W l ≡ leaf_set_of W m
  leaves-same = ap union_of clusters-same

  at_same : (C : ℕ) → trees_at W d l C ≡ trees_at W d m C
  at_same C = ap (λ (cs : List ℕ). trees_on W.taxa d cs C) clusters-same

  trees-same : trees_of_list W d l ≡ trees_of_list W d m
  trees-same = ap₂ (trees_on W.taxa d) clusters-same leaves-same

  lengths-same : (r : Row) → row_length d rs r ≡ row_length d qs r
  lengths-same r =
      ap (λ (cs : List ℕ). cond (is_scored r && not (single r.cluster)) (length (keep (is_tuple d r.cluster) (sublists cs))) 0)
      clusters-same

  -- of a tree, the scored rows alone are weighed
  weighs : (n : List ℕ) → Buildable W d (rows_of W n) → (ys : List ℕ) → Mem ys (trees_of_list W d n)
      → weight_of (keep is_scored (rows_of W n)) ys ≡ weight_of (rows_of W n) ys
  weighs n i ys h =
      weight-scored (rows_of W n) (falling_once (clusters_of (rows_of W n)) i.facts.falls) ys
      (((rows_tell W facts d n i).all-trees (leaf_set_of W n)).listed ys h)

  weights-same : (ys : List ℕ) → Mem ys (trees_of_list W d l) → weight_of rs ys ≡ weight_of qs ys
  weights-same ys h =
      sym (weighs l k ys h)
      ∙ ap (λ (rows : List Row). weight_of rows ys) scored-same
      ∙ weighs m j ys (subst (Mem ys) trees-same h)

  -- ---- the first heaviest tree

  abbrev trees : List (List ℕ)
  trees = trees_of_list W d l

  abbrev First : List ℕ → List (List ℕ) → List ℕ → Type 0
  First n ts ys = FirstBy tie_first (rows_of W n) ts ys

  first_to : (ys : List ℕ) → First l trees ys → First m (trees_of_list W d m) ys
  first_to ys f = subst (λ (ts : List (List ℕ)). First m ts ys) trees-same (first_by W rs qs trees weights-same ys f)

  first_from_lem : (ys : List ℕ) → First m (trees_of_list W d m) ys → First l trees ys
  first_from_lem ys f =
      first_by W qs rs trees (λ zs h. sym (weights-same zs h)) ys
      (subst (λ (ts : List (List ℕ)). First m ts ys) (sym trees-same) f)

  -- what is so where there is no tree, and where one is the first heaviest
  by_trees : {A : Type 0} → (trees ≡ [] → A) → ((ys : List ℕ) → First l trees ys → A) → A
  by_trees {A} f g = go (empty-or trees)
    where
      go : (trees ≡ []) ⊎ (trees ≢ []) → A
      go (inl e) = f e
      go (inr n) =
          let q = first_there W.taxa d rs k.facts (leaf_set_of W l) n in g q.0 q.1

  none_too : trees ≡ [] → trees_of_list W d m ≡ []
  none_too e = sym trees-same ∙ e

  -- ---- what the tables tell and what is drawn of them

  tells-same : TellsTrees W qs trees (leaf_result (built_from W d qs))
  tells-same =
      subst (λ (ts : List (List ℕ)). TellsTrees W qs ts (leaf_result (built_from W d qs))) (sym trees-same) (leaf-tells W facts d m j)

  abbrev v : Result
  v = leaf_result (built_from W d rs)

  abbrev u : Result
  u = leaf_result (built_from W d qs)

  counts_same : (v.count ≡ u.count) × (v.mark ≡ u.mark)
  counts_same = same_count W rs qs trees weights-same v u (leaf-tells W facts d l k) tells-same

  bests-same : v.best ≡ u.best
  bests-same = same-best W rs qs trees weights-same v u (leaf-tells W facts d l k) tells-same

  module _ (room : List ℕ) where
    tree-same : draw_tree W (built_from W d rs) room ≡ draw_tree W (built_from W d qs) room
    tree-same =
        by_trees
        (λ e.
        draw_tree-none W facts d rs k e room
        ∙ sym (draw_tree-none W facts d qs j (none_too e) room))
        (λ ys f.
        (draws W facts d l k).tree ys f room
        ∙ sym ((draws W facts d m j).tree ys (first_to ys f) room))

    text_same : draw_text W (built_from W d rs) room ≡ draw_text W (built_from W d qs) room
    text_same =
        by_trees
        (λ e.
        draw_text-none W facts d rs k e room
        ∙ sym (draw_text-none W facts d qs j (none_too e) room))
        (λ ys f.
        let s = (draws W facts d l k).shape ys f in
        (draws W facts d l k).text ys f s.0 s.1 room
        ∙ sym ((draws W facts d m j).text ys (first_to ys f) s.0 s.1 room))

  -- ---- all of it, of the tables that are built

  table_is : (n : List ℕ) → AcceptedBytes W n → table_for W d n ≡ built_from W d (rows_of W n)
  table_is n c = built_table_lem W n d two.degree c.accepted

  -- what is the same of the tables of both rows
  by_tables : {A : Type 0} (f : Table → A) → f (built_from W d rs) ≡ f (built_from W d qs)
      → f (table_for W d l) ≡ f (table_for W d m)
  by_tables f e = ap f (table_is l two.one) ∙ e ∙ sym (ap f (table_is m two.other))

  pub same-trees : SameTrees W d l m
  same-trees = record {
    leaf_set_lem = leaves-same;
    trees_at_lem = at_same;
    trees = trees-same;
    lengths = lengths-same;
    weights = weights-same;
    first = λ ys. (first_to ys, first_from_lem ys);
    count = by_tables (λ (t : Table). (leaf_result t).count) counts_same.0;
    mark = by_tables (λ (t : Table). (leaf_result t).mark) counts_same.1;
    best = by_tables (λ (t : Table). (leaf_result t).best) bests-same;
    tree = λ room. by_tables (λ (t : Table). draw_tree W t room) (tree-same room);
    text = λ room. by_tables (λ (t : Table). draw_text W t room) (text_same room);
  }
