-- A list of clusters backward has the same trees, shapes and texts: only which clusters are members plays a part.
--     children-reverse      the children of a member
--     is_tree-reverse        the test of a tree
--     on_reverse            the facts of a tree
--     text-reverse          the text of a tree
-- Assumes nothing.
use mathlib.Core.Path.{◌≡◌, ap, ◌∙◌}
use mathlib.Core.Bool.{Bool, not, ◌&&◌, ◌||◌}
use mathlib.Core.List.{List, reverse}
use Prim.Native.Nat.{ℕ, ◌-◌}
use lib.Dec.{eqb, leb}
use lib.ListN.{length, length-reverse}
use Rattle.laws.specs.Cluster.{inside, strict, nested, single, size, taxa}
use Rattle.laws.specs.Lists.{keep, every, any, Same}
use Rattle.laws.proofs.Appended.{mem-reverse, mem_of_reverse, once-reverse, every-reverse, any-reverse, keep-reverse}
use Rattle.trees.specs.Tree.{children, is_tree}
use Rattle.shapes.specs.Shape.{vertices_of}
use Rattle.shapes.specs.Text.{text_bytes}
use Rattle.shapes.specs.Drawn.{shape_of, text_of}
use Rattle.shapes.specs.Nests.{TreeOn}
use Rattle.shapes.proofs.Theorems.{shape-ordered, shape-clusters, shape-once, shape-only}

-- ---- the test of a tree

module _ (xs : List ℕ) where
  abbrev is_child : List ℕ → ℕ → ℕ → Bool
  is_child ys m k = strict k m && not (any (λ (l : ℕ). strict l m && strict k l) ys)

  pub children-reverse : (m : ℕ) → children (reverse xs) m ≡ reverse (children xs m)
  children-reverse m =
      (λ i. keep (λ (k : ℕ). strict k m && not (any-reverse (λ (l : ℕ). strict l m && strict k l) xs i)) (reverse xs))
      ∙ keep-reverse (is_child xs m) xs

  module _ (w d C : ℕ) where
    laminar_reverse : every (λ (a : ℕ). every (λ (b : ℕ). nested a b) (reverse xs)) (reverse xs)
        ≡ every (λ (a : ℕ). every (λ (b : ℕ). nested a b) xs) xs
    laminar_reverse =
        (λ i. every (λ (a : ℕ). every-reverse (λ (b : ℕ). nested a b) xs i) (reverse xs))
        ∙ every-reverse (λ (a : ℕ). every (λ (b : ℕ). nested a b) xs) xs

    few-reverse : every (λ (m : ℕ). single m || leb (length (children (reverse xs) m)) (d - 1)) (reverse xs)
        ≡ every (λ (m : ℕ). single m || leb (length (children xs m)) (d - 1)) xs
    few-reverse =
        (λ i. every (λ (m : ℕ). single m || leb (count m i) (d - 1)) (reverse xs))
        ∙ every-reverse (λ (m : ℕ). single m || leb (length (children xs m)) (d - 1)) xs
      where
        count : (m : ℕ) → length (children (reverse xs) m) ≡ length (children xs m)
        count m = ap length (children-reverse m) ∙ length-reverse (children xs m)

    pub is_tree-reverse : is_tree w d C (reverse xs) ≡ is_tree w d C xs
    unfolding is_tree
    is_tree-reverse = λ i.
        every-reverse (λ (m : ℕ). inside m C) xs i
        && any-reverse (λ (x : ℕ). eqb C x) xs i
        && every (λ (u : ℕ). not (inside u C) || any-reverse (λ (x : ℕ). eqb u x) xs i) (taxa w)
        && laminar_reverse i
        && few-reverse i

-- ---- the facts of a tree, and its text

module _ (xs : List ℕ) (C : ℕ) (tree : TreeOn xs C) where
  pub on_reverse : TreeOn (reverse xs) C
  on_reverse = record {
    nests = record {
      once = once-reverse xs tree.nests.once;
      nonzero = λ c m. tree.nests.nonzero c (mem_of_reverse xs m);
      small = λ c m. tree.nests.small c (mem_of_reverse xs m);
      nest = λ a b m k. tree.nests.nest a b (mem_of_reverse xs m) (mem_of_reverse xs k);
      leaves = λ c t m i. mem-reverse xs (tree.nests.leaves c t (mem_of_reverse xs m) i);
    };
    top = mem-reverse xs tree.top;
    within = λ c m. tree.within c (mem_of_reverse xs m);
  }

  pub text-reverse : text_of (reverse xs) C ≡ text_of xs C
  text-reverse =
      ap text_bytes
      (shape-only xs C tree (shape_of (size C) (reverse xs) C)
      (shape-ordered (reverse xs) C on_reverse) (shape-once (reverse xs) C on_reverse)
      (record { to = λ c m. mem_of_reverse xs (same.to c m); from = λ c m. same.from c (mem-reverse xs m) }))
    where
      same : Same (vertices_of (shape_of (size C) (reverse xs) C)) (reverse xs)
      same = shape-clusters (reverse xs) C on_reverse
