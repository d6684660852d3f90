-- Member marks as one number: bit i is row i (RULES 5). The clusters of all rows are a list with the largest first, so that the number of
-- the first one's row is how many clusters follow. Laws: `proofs/Laws/Marks.antt`.
--     has_mark m i           row i is marked in the marks m
--     every_marked cs m p    every marked row's cluster passes p
--     is_marked_in cs m c     the row of the cluster c is marked
--     are_inside cs m c      no mark stands past the rows, and every marked row's cluster lies inside c
-- Assumes nothing.
use Rattle.std.specs.Prelude.{Bool, true, false, not, ◌&&◌, ◌||◌, List, [], ◌∷◌, ℕ, ◌/◌, ◌%◌, ◌^◌, eqb, ltb, length}
use Rattle.laws.specs.Cluster.{inside}

abbrev pub has_mark : ℕ → ℕ → Bool
has_mark m i = eqb (m / 2 ^ i % 2) 1

abbrev pub every_marked : List ℕ → ℕ → (ℕ → Bool) → Bool
every_marked [] m p = true
every_marked (c ∷ cs) m p = (not (has_mark m (length cs)) || p c) && every_marked cs m p

abbrev pub is_marked_in : List ℕ → ℕ → ℕ → Bool
is_marked_in [] m c = false
is_marked_in (x ∷ cs) m c = (eqb x c && has_mark m (length cs)) || is_marked_in cs m c

abbrev pub are_inside : List ℕ → ℕ → ℕ → Bool
are_inside cs m c = ltb m (2 ^ length cs) && every_marked cs m (λ (x : ℕ). inside x c)
