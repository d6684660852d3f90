-- Shapes: a vertex is a taxon or a list of at least two vertices (RULES 3), its children in order of their smallest taxon (RULES 9). Laws:
-- `proofs/Shape.antt`, `proofs/Only.antt`.
--     Shape, Shapes      a vertex is a taxon or has vertices for children; that they are two or more is asked by `is_ordered`
--     top_of s, tops_of ss the cluster of a vertex: of a taxon itself, else the union of its children's; and those of a list
--     vertices_of s, vertices_in ss     the clusters of all its vertices; and those of a list
--     smallest c         the smallest taxon of a cluster
--     ascends ns         strictly ascending
--     is_ordered s, are_ordered ss     every vertex that is no taxon has two children or more, in order of their smallest taxon
-- Assumes nothing.
use Rattle.std.specs.Prelude.{Bool, true, ◌&&◌, List, [], ◌∷◌, ◌++◌, map, ℕ, ◌^◌, leb, ltb, length}
use Rattle.laws.specs.Cluster.{lowest, union_of}
use Rattle.laws.specs.Lists.{every}

mutual
  pub data Shape : Type 0 where
    taxon : ℕ → Shape
    vertex : Shapes → Shape

  pub data Shapes : Type 0 where
    none : Shapes
    more : Shape → Shapes → Shapes

-- ---- clusters
abbrev mutual
  pub top_of : Shape → ℕ
  top_of (taxon t) = 2 ^ t
  top_of (vertex ss) = union_of (tops_of ss)

  pub tops_of : Shapes → List ℕ
  tops_of none = []
  tops_of (more s ss) = top_of s ∷ tops_of ss

abbrev mutual
  pub vertices_of : Shape → List ℕ
  vertices_of (taxon t) = 2 ^ t ∷ []
  vertices_of (vertex ss) = union_of (tops_of ss) ∷ vertices_in ss

  pub vertices_in : Shapes → List ℕ
  vertices_in none = []
  vertices_in (more s ss) = vertices_of s ++ vertices_in ss

-- ---- the order of children
-- no cluster has more than 64 taxa
abbrev pub smallest : ℕ → ℕ
smallest c = lowest 64 c

abbrev pub ascends : List ℕ → Bool
ascends [] = true
ascends (n ∷ ns) = every (ltb n) ns && ascends ns

abbrev mutual
  pub is_ordered : Shape → Bool
  is_ordered (taxon t) = true
  is_ordered (vertex ss) = leb 2 (length (tops_of ss)) && ascends (map smallest (tops_of ss)) && are_ordered ss

  pub are_ordered : Shapes → Bool
  are_ordered none = true
  are_ordered (more s ss) = is_ordered s && are_ordered ss
