-- What is drawn of a built table, in words: demand 2 of tree and text.
--     tree_on           the first heaviest tree is a tree on the leaf set
--     draws             the built table of a list draws its first heaviest tree
-- Assumes nothing.
use mathlib.Core.Path.{◌≡◌, sym, ap, ◌∙◌}
use mathlib.Core.Logic.{◌⊎◌, inl, inr, ⊎_map, ◌≢◌, ◌↔◌}
use mathlib.Core.Option.{some, some-injective}
use mathlib.Core.List.{List, []}
use Prim.Native.Nat.{ℕ, ◌≤◌, ◌<◌}
use native.Mathlib.Omega.{arith}
use lib.ListN.{length}
use Rattle.laws.specs.Cluster.{size}
use Rattle.laws.specs.Limits.{Width}
use Rattle.laws.specs.Row.{Row}
use Rattle.laws.specs.Widths.{WidthFacts}
use Rattle.laws.proofs.Keep.{empty-or}
use Rattle.trees.specs.Heaviest.{first_heaviest}
use Rattle.trees.proofs.Formula.Rows.{given_of}
use Rattle.trees.proofs.Theorems.{best-some}
use Rattle.shapes.specs.Shape.{Shape}
use Rattle.shapes.specs.Text.{text_bytes}
use Rattle.shapes.specs.Drawn.{ascending, shape_of, text_of}
use Rattle.shapes.specs.Nests.{TreeOn}
use Rattle.shapes.proofs.Theorems.{trees_on_lem}
use Rattle.answers.specs.Outcome.{Outcome, written}
use Rattle.answers.proofs.Laws.Outcome.{written-ends}
use Rattle.lists.specs.Records.{rows_of}
use Rattle.kept.specs.declared.table.Table.{Table}
use Rattle.table.proofs.Laws.Build.{Buildable}
use Rattle.drawing.specs.Draw.{draw_tree, draw_text}
use Rattle.drawing.specs.Built.{built_from, list_max}
use Rattle.drawing.proofs.LeafTree.{leaf-best}
use Rattle.drawing.proofs.DrawnTables.{draw_tree-none, draw_text-none, draw_tree_is, draw_text_is, draw_tree-fits, draw_text-fits}
use Rattle.demands.specs.Demands.{FirstTree, DrawsTrees}
use Rattle.demands.specs.Sending.{sent_back}
use Rattle.demands.specs.Trees.{leaf_set_of, trees_of_list}
use Rattle.demands.proofs.Shapes.{shape_of_lem, shape_is}
use Rattle.demands.proofs.Drawn.First.{→found, first_there}

-- ---- into a room

-- neither 7 nor 8
never : (n : ℕ) → 0 < n → n < 11 → (out room : List ℕ) → (written [] out room).sent.number ≢ n
never n p h out room e = go (written-ends out room)
  where
    go : ((written [] out room).sent.number ≡ 0) ⊎ ((written [] out room).sent.number ≡ 11) → ⊥
    go (inl z) = omega (arith, z, e)
    go (inr z) = omega (arith, z, e)

-- ---- what is drawn

module _ (W : Width) (facts : WidthFacts W) (d : ℕ) (l : List ℕ) (k : Buildable W d (rows_of W l)) where
  abbrev rs : List Row
  rs = rows_of W l

  abbrev t : Table
  t = built_from W d rs

  abbrev trees : List (List ℕ)
  trees = trees_of_list W d l

  abbrev C : ℕ
  C = leaf_set_of W l

  found : (ys : List ℕ) → FirstTree W d l ys → first_heaviest rs trees ≡ some ys
  found = →found W.taxa d rs k.facts C

  pub tree_on : (ys : List ℕ) → FirstTree W d l ys → TreeOn ys (leaf_set_of W l)
  tree_on ys f = trees_on_lem (given_of W.taxa d rs k.facts) facts.taxa C ys f.tree

  -- either there is no tree, or one is the first heaviest
  either : (trees ≡ []) ⊎ ((ys : List ℕ) × (first_heaviest rs trees ≡ some ys))
  either = ⊎_map (λ n. n) (best-some W.taxa d rs k.facts C) (empty-or trees)

  -- an outcome that is the refusal of no tree where there is none, and else something put into the room
  module _ (o : Outcome (List ℕ)) (out : List ℕ → List ℕ) (room : List ℕ)
      (none-there : trees ≡ [] → o.sent ≡ sent_back 7 0)
      (drawn : (ys : List ℕ) → first_heaviest rs trees ≡ some ys → o ≡ written [] (out ys) room) where
    number_is : (ys : List ℕ) → first_heaviest rs trees ≡ some ys → o.sent.number ≡ (written [] (out ys) room).sent.number
    number_is ys e = ap (λ (x : Outcome (List ℕ)). x.sent.number) (drawn ys e)

    by_seven : (o.sent ≡ sent_back 7 0) ↔ (trees ≡ [])
    by_seven = (λ e. go e either, none-there)
      where
        go : o.sent ≡ sent_back 7 0 → (trees ≡ []) ⊎ ((ys : List ℕ) × (first_heaviest rs trees ≡ some ys)) → trees ≡ []
        go e (inl n) = n
        go e (inr q) =
            absurd (never 7 (omega arith) (omega arith) (out q.0) room (sym (number_is q.0 q.1) ∙ ap (λ s. s.number) e))

    by_eight : o.sent.number ≢ 8
    by_eight e = go either
      where
        go : (trees ≡ []) ⊎ ((ys : List ℕ) × (first_heaviest rs trees ≡ some ys)) → ⊥
        go (inl n) = omega (arith, e, ap (λ s. s.number) (none-there n))
        go (inr q) = never 8 (omega arith) (omega arith) (out q.0) room (sym (number_is q.0 q.1) ∙ e)

    by_eleven : ((ys : List ℕ) → first_heaviest rs trees ≡ some ys → o.sent.number ≡ 0) → o.sent.number ≢ 11
    by_eleven f e = go either
      where
        go : (trees ≡ []) ⊎ ((ys : List ℕ) × (first_heaviest rs trees ≡ some ys)) → ⊥
        go (inl n) = omega (arith, e, ap (λ s. s.number) (none-there n))
        go (inr q) = omega (arith, e, f q.0 q.1)

  -- ---- tree and text

  abbrev text_for : List ℕ → List ℕ
  text_for ys = text_of ys C

  module _ (room : List ℕ) where
    tree-none : trees ≡ [] → (draw_tree W t room).sent ≡ sent_back 7 0
    tree-none n = ap (λ (o : Outcome (List ℕ)). o.sent) (draw_tree-none W facts d rs k n room)

    tree-drawn : (ys : List ℕ) → first_heaviest rs trees ≡ some ys → draw_tree W t room ≡ written [] (ascending ys) room
    tree-drawn ys e = draw_tree_is W facts d rs k ys e room

    text-none : trees ≡ [] → (draw_text W t room).sent ≡ sent_back 7 0
    text-none n = ap (λ (o : Outcome (List ℕ)). o.sent) (draw_text-none W facts d rs k n room)

    text-drawn : (ys : List ℕ) → first_heaviest rs trees ≡ some ys → draw_text W t room ≡ written [] (text_for ys) room
    text-drawn ys e = draw_text_is W facts d rs k ys e room

    tree-enough : list_max W ≤ length room → (draw_tree W t room).sent.number ≢ 11
    tree-enough h = by_eleven (draw_tree W t room) ascending room tree-none tree-drawn
        (λ ys e. ap (λ (o : Outcome (List ℕ)). o.sent.number) (draw_tree-fits W facts d rs k ys e room h))

    text-enough : W.text_bytes ≤ length room → (draw_text W t room).sent.number ≢ 11
    text-enough h = by_eleven (draw_text W t room) text_for room text-none text-drawn
        (λ ys e. ap (λ (o : Outcome (List ℕ)). o.sent.number) (draw_text-fits W facts d rs k ys e room h))

  pub draws : DrawsTrees W d l (built_from W d (rows_of W l))
  draws = record {
    no_tree = λ room. by_seven (draw_tree W t room) ascending room (tree-none room) (tree-drawn room);
    no_text_lem = λ room. by_seven (draw_text W t room) text_for room (text-none room) (text-drawn room);
    tree-never = λ room. by_eight (draw_tree W t room) ascending room (tree-none room) (tree-drawn room);
    text-never = λ room. by_eight (draw_text W t room) text_for room (text-none room) (text-drawn room);
    first = first_there W.taxa d rs k.facts C;
    only = λ ys zs f g. some-injective ys zs (sym (found ys f) ∙ found zs g);
    best = λ ys f. (leaf-best W facts d rs k ys (found ys f)).1;
    tree = λ ys f room. tree-drawn room ys (found ys f);
    shape = λ ys f. (shape_of (size C) ys C, shape_of_lem C ys (tree_on ys f));
    shape-only = λ ys f s u p q. shape_is C ys (tree_on ys f) s p ∙ sym (shape_is C ys (tree_on ys f) u q);
    text = λ ys f s p room. text-drawn room ys (found ys f)
        ∙ ap (λ (x : Shape). written [] (text_bytes x) room) (sym (shape_is C ys (tree_on ys f) s p));
    tree-enough = tree-enough;
    text-enough = text-enough;
  }
