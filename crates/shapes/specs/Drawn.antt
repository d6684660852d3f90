-- How a set of clusters is drawn (RULES 9). Laws: `proofs/Sorted.antt`, `proofs/Drawn.antt`, `proofs/Parts.antt`.
--     ascending xs           a set of clusters in ascending order of number
--     children_in_order xs C   the children of C in order of their smallest taxon
--     shapes_by f cs          the shapes f c of some clusters
--     shape_of n xs C         the shape of the member C of xs: one taxon is itself, any other its children's; n is no less than its taxa
--     text_of xs C            its text
-- Assumes nothing.
use Rattle.std.specs.Prelude.{cond, List, [], ◌∷◌, ℕ, zero, suc, ltb}
use Rattle.laws.specs.Cluster.{single, size}
use Rattle.laws.specs.Orders.{sort_by}
use Rattle.trees.specs.Tree.{children}
use Rattle.shapes.specs.Shape.{Shape, taxon, vertex, Shapes, none, more, smallest}
use Rattle.shapes.specs.Text.{text_bytes}

abbrev pub ascending : List ℕ → List ℕ
ascending xs = sort_by ltb xs

abbrev pub children_in_order : List ℕ → ℕ → List ℕ
children_in_order xs C = sort_by (λ (a b : ℕ). ltb (smallest a) (smallest b)) (children xs C)

abbrev pub shapes_by : (ℕ → Shape) → List ℕ → Shapes
shapes_by f [] = none
shapes_by f (c ∷ cs) = more (f c) (shapes_by f cs)

unfoldable pub shape_of : ℕ → List ℕ → ℕ → Shape
shape_of zero xs C = taxon (smallest C)
shape_of (suc n) xs C = cond (single C) (taxon (smallest C)) (vertex (shapes_by (shape_of n xs) (children_in_order xs C)))

abbrev pub text_of : List ℕ → ℕ → List ℕ
text_of xs C = text_bytes (shape_of (size C) xs C)
