-- The words of demand 2: the trees of a list, and the one that is drawn (RULES 3, 4 and 9).
--     leaf_set_of W l          the leaf set of a list: the union of its scored clusters
--     trees_at W d l C        the trees on a cluster, of the listed, scored clusters of a list
--     trees_of_list W d l      the trees of a list: those on its leaf set
--     EveryTree W d l C      the list of the trees on C has every set that is one, once, and nothing else
--     FirstBy before rs ts ys     ys is one of the sets ts; none is heavier, rs having the weights; and by `before` it comes before each
--                            that is as heavy
--     TellsTrees W rs ts v   the results of a row whose cluster has the trees ts
--     ShapeOf ys s           s is an ordered shape whose vertices are the clusters ys
--     printed_count W n       the number of trees as it is printed
-- Assumes nothing.
use Rattle.std.specs.Prelude.{◌≡◌, ◌⊎◌, ◌≢◌, ◌↔◌, Bool, cond, ℕ, ◌≤◌, ◌<◌, T, leb, pos, length}
use mathlib.Core.List.{List, [], Memᴰ as Mem}
use Rattle.std.specs.Int.Signed.{lt_z}
use Rattle.laws.specs.Limits.{Width}
use Rattle.laws.specs.Lists.{Once, Same}
use Rattle.laws.specs.Row.{Row}
use Rattle.trees.specs.Rows.{clusters_of, scored_in, leaves}
use Rattle.trees.specs.Tree.{is_tree, trees_on}
use Rattle.trees.specs.Heaviest.{weight_of, tie_first}
use Rattle.trees.specs.Result.{Result, marks_of}
use Rattle.lists.specs.Records.{rows_of}
use Rattle.drawing.specs.Built.{trees_of}
use Rattle.shapes.specs.Characters.{characters}
use Rattle.shapes.specs.Decimal.{decimal}
use Rattle.shapes.specs.Shape.{Shape, vertices_of, is_ordered}

-- ---- the trees of a list

abbrev pub leaf_set_of : Width → List ℕ → ℕ
leaf_set_of W l = leaves (rows_of W l)

abbrev pub trees_at : Width → ℕ → List ℕ → ℕ → List (List ℕ)
trees_at W d l C = trees_on W.taxa d (scored_in (rows_of W l)) C

abbrev pub trees_of_list : Width → ℕ → List ℕ → List (List ℕ)
trees_of_list W d l = trees_of W d (rows_of W l)

-- a set is a list of clusters that has none twice
pub record EveryTree (W : Width) (d : ℕ) (l : List ℕ) (C : ℕ) : Type 0 where
  -- each is a set of listed, scored clusters that is a tree on C
  pub listed : (xs : List ℕ) → Mem xs (trees_at W d l C) → (c : ℕ) → Mem c xs → Mem c (scored_in (rows_of W l))
  pub set : (xs : List ℕ) → Mem xs (trees_at W d l C) → Once xs
  pub tree : (xs : List ℕ) → Mem xs (trees_at W d l C) → T (is_tree W.taxa d C xs)
  -- each such set is there, in its own order
  pub every : (xs : List ℕ) → ((c : ℕ) → Mem c xs → Mem c (scored_in (rows_of W l))) → Once xs → T (is_tree W.taxa d C xs)
      → (ys : List ℕ) × Mem ys (trees_at W d l C) × Same ys xs
  -- and none stands there twice, nor in another order
  pub once : Once (trees_at W d l C)
  pub only : (xs ys : List ℕ) → Mem xs (trees_at W d l C) → Mem ys (trees_at W d l C) → Same xs ys → xs ≡ ys

-- ---- the one that is drawn

pub record FirstBy (before : List ℕ → List ℕ → Bool) (rs : List Row) (ts : List (List ℕ)) (ys : List ℕ) : Type 0 where
  pub tree : Mem ys ts
  pub heaviest : (zs : List ℕ) → Mem zs ts → T (lt_z (weight_of rs ys) (weight_of rs zs)) → ⊥
  pub first : (zs : List ℕ) → Mem zs ts → weight_of rs zs ≡ weight_of rs ys → (zs ≡ ys) ⊎ T (before ys zs)

-- ---- what a row tells of the trees on its cluster

pub record TellsTrees (W : Width) (rs : List Row) (ts : List (List ℕ)) (v : Result) : Type 0 where
  -- the mark is 1 exactly past the limit, else 0
  pub many : (v.mark ≡ 1) ↔ (W.count_max < length ts)
  pub exact : (v.mark ≡ 0) ↔ (length ts ≤ W.count_max)
  -- the count is the number of trees, or the limit
  pub count : length ts ≤ W.count_max → v.count ≡ length ts
  pub limit : W.count_max < length ts → v.count ≡ W.count_max
  -- where there is a tree, there is one that is the first heaviest, and only one
  pub first : ts ≢ [] → (ys : List ℕ) × FirstBy tie_first rs ts ys
  pub only : (ys zs : List ℕ) → FirstBy tie_first rs ts ys → FirstBy tie_first rs ts zs → ys ≡ zs
  -- best weight and member marks are its; all zero where there is no tree
  pub none : ts ≡ [] → (v.best ≡ pos 0) × (v.members ≡ 0)
  pub best : (ys : List ℕ) → FirstBy tie_first rs ts ys → v.best ≡ weight_of rs ys
  pub members : (ys : List ℕ) → FirstBy tie_first rs ts ys → v.members ≡ marks_of (clusters_of rs) ys

-- ---- how it is drawn

pub record ShapeOf (ys : List ℕ) (s : Shape) : Type 0 where
  pub ordered : T (is_ordered s)
  pub once : Once (vertices_of s)
  pub vertices : Same (vertices_of s) ys

abbrev pub printed_count : Width → ℕ → List ℕ
printed_count W n = cond (leb n W.count_max) (decimal n) (characters "many")
