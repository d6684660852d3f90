-- A cluster is a set of taxa, kept as a number: bit b is taxon b (RULES 2). Laws: `proofs/Digits.antt`, `proofs/Cluster.antt`,
-- `proofs/Taxa.antt`.
--     inside a b      every taxon of a is one of b's; a cluster is inside itself
--     strict a b      inside, and another cluster
--     apart a b       no taxon is in both
--     nested a b      one of the two is inside the other, or they are apart
--     size c          the number of taxa
--     single c        exactly one taxon
--     taxa w          the one-taxon clusters of w taxa
--     halvings n c    how often c is halved until its highest taxon is left, n times at most
--     highest c       the largest taxon, 0 where there is none
--     lowest w c      the smallest taxon of a cluster of w taxa, w where there is none
--     union_of cs      the taxa of all the clusters of a list
-- Assumes nothing.
use Rattle.std.specs.Prelude.{Bool, not, ◌&&◌, ◌||◌, List, [], ◌∷◌, ℕ, zero, suc, ◌/◌, ◌^◌, eqb}
use Rattle.std.specs.Int.Bits.{bit_and, bit_or}
use Rattle.std.specs.Int.Count.{ones, count_trailing_zeros}

unfoldable pub inside : ℕ → ℕ → Bool
inside a b = eqb (bit_and a b) a

abbrev pub strict : ℕ → ℕ → Bool
strict a b = inside a b && not (eqb a b)

unfoldable pub apart : ℕ → ℕ → Bool
apart a b = eqb (bit_and a b) 0

abbrev pub nested : ℕ → ℕ → Bool
nested a b = inside a b || inside b a || apart a b

abbrev pub size : ℕ → ℕ
size c = ones c

unfoldable pub single : ℕ → Bool
single c = eqb (size c) 1

abbrev pub taxa : ℕ → List ℕ
taxa zero = []
taxa (suc w) = 2 ^ w ∷ taxa w

-- how often c can be halved before nothing but its highest taxon is left; n halvings are enough for n
unfoldable pub halvings : ℕ → ℕ → ℕ
halvings zero c = 0
halvings (suc n) zero = 0
halvings (suc n) (suc zero) = 0
halvings (suc n) (suc (suc c)) = suc (halvings n (suc (suc c) / 2))

abbrev pub highest : ℕ → ℕ
highest c = halvings c c

abbrev pub lowest : ℕ → ℕ → ℕ
lowest w c = count_trailing_zeros w c

abbrev pub union_of : List ℕ → ℕ
union_of [] = 0
union_of (c ∷ cs) = bit_or c (union_of cs)
