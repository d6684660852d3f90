-- Covers: tuples without the lower bound on the number of children. A search for tuples looks for covers of what is left. Laws:
-- `proofs/Searching/Covers.antt`.
--     covers n R cs       at most n clusters, pairwise apart, whose union is R
--     is_cover n R τ       the clusters of some entries are such
--     covers_of n R es     the covers of R among the sublists of entries
-- Assumes nothing.
use Rattle.std.specs.Prelude.{Bool, ◌&&◌, List, map, ℕ, eqb, leb, length}
use Rattle.laws.specs.Cluster.{union_of}
use Rattle.laws.specs.Lists.{keep, sublists}
use Rattle.trees.specs.Rows.{Entry, cl}
use Rattle.trees.specs.Tuple.{all_apart}

abbrev pub covers : ℕ → ℕ → List ℕ → Bool
covers n R cs = leb (length cs) n && eqb (union_of cs) R && all_apart cs

module _ {A : Type 0} where
  abbrev pub is_cover : ℕ → ℕ → List (Entry A) → Bool
  is_cover n R τ = covers n R (map cl τ)

  abbrev pub covers_of : ℕ → ℕ → List (Entry A) → List (List (Entry A))
  covers_of n R es = keep (is_cover n R) (sublists es)
