-- The bytes of a part, and the child of a part that the writer of a text goes to next. No public promise cites this: the writer's own
-- contracts do. That it meets the children in order is proved in `proofs/Parts.antt`, what the bytes are in `proofs/PartBytes.antt`.
--     part_bytes xs C          the bytes of the part C
--     child_with xs C t        the largest member by number that lies strictly inside C and has taxon t
-- Assumes nothing.
use Rattle.std.specs.Prelude.{◌&&◌, List, ℕ, ◌^◌}
use Rattle.laws.specs.Cluster.{inside, strict, size}
use Rattle.laws.specs.Lists.{keep}
use Rattle.trees.specs.Heaviest.{largest}
use Rattle.shapes.specs.Text.{print}
use Rattle.shapes.specs.Drawn.{shape_of}

abbrev pub part_bytes : List ℕ → ℕ → List ℕ
part_bytes xs C = print (shape_of (size C) xs C)

abbrev pub child_with : List ℕ → ℕ → ℕ → ℕ
child_with xs C t = largest (keep (λ (k : ℕ). strict k C && inside (2 ^ t) k) xs)
