-- Tuples (RULES 5; formula 18 of Bryant and Steel, "Constructing Optimal Trees from Quartets"): unordered, so each is listed once, as a
-- sublist.
--     all_apart cs        pairwise disjoint
--     is_tuple d C cs     2 to d - 1 pairwise disjoint clusters whose union is C
--     tuples d C es      the tuples of entries whose clusters are a tuple of C
-- Assumes nothing.
use Rattle.std.specs.Prelude.{Bool, true, ◌&&◌, List, [], ◌∷◌, map, ℕ, ◌-◌, leb, eqb, length}
use Rattle.laws.specs.Cluster.{apart, union_of}
use Rattle.laws.specs.Lists.{keep, every, sublists}
use Rattle.trees.specs.Rows.{Entry, cl}

abbrev pub all_apart : List ℕ → Bool
all_apart [] = true
all_apart (c ∷ cs) = every (λ (x : ℕ). apart c x) cs && all_apart cs

abbrev pub is_tuple : ℕ → ℕ → List ℕ → Bool
is_tuple d C cs = leb 2 (length cs) && leb (length cs) (d - 1) && eqb (union_of cs) C && all_apart cs

module _ {A : Type 0} where
  abbrev pub tuples : ℕ → ℕ → List (Entry A) → List (List (Entry A))
  tuples d C es = keep (λ (τ : List (Entry A)). is_tuple d C (map cl τ)) (sublists es)
