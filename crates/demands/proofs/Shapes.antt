-- The ordered shape of a tree, in words.
--     shape_of_lem, shape_is     a tree has one, and one only
-- Assumes nothing.
use mathlib.Core.Path.{◌≡◌}
use mathlib.Core.List.{List}
use Prim.Native.Nat.{ℕ}
use Rattle.laws.specs.Cluster.{size}
use Rattle.shapes.specs.Shape.{Shape}
use Rattle.shapes.specs.Drawn.{shape_of}
use Rattle.shapes.specs.Nests.{TreeOn}
use Rattle.shapes.proofs.Theorems.{shape-ordered, shape-clusters, shape-once, shape-only}
use Rattle.demands.specs.Trees.{ShapeOf}

module _ (C : ℕ) (ys : List ℕ) (tree : TreeOn ys C) where
  pub shape_of_lem : ShapeOf ys (shape_of (size C) ys C)
  shape_of_lem = record { ordered = shape-ordered ys C tree; once = shape-once ys C tree; vertices = shape-clusters ys C tree }

  pub shape_is : (s : Shape) → ShapeOf ys s → s ≡ shape_of (size C) ys C
  shape_is s k = shape-only ys C tree s k.ordered k.once k.vertices
