-- Numbers as bytes, low byte first (RULES 2). Laws, over any number of bytes: `proofs/Laws/Bytes.antt`.
--     byte_values          how many values a byte has
--     word_bytes           the bytes of a word, which a cluster and a weight are
--     number_at k l i      the number of the k bytes of l from place i
--     low_first k n        the k bytes of n
-- The signed number of 32 bits in two's complement and its bits are the kit's `to_z w32` and `of_z w32`.
-- Assumes nothing.
use Rattle.std.specs.Prelude.{List, [], ◌∷◌, ℕ, zero, suc, ◌+◌, ◌*◌, ◌/◌, ◌%◌, get_or}

abbrev pub byte_values : ℕ
byte_values = 256

abbrev pub word_bytes : ℕ
word_bytes = 4

abbrev pub number_at : ℕ → List ℕ → ℕ → ℕ
number_at zero l i = 0
number_at (suc k) l i = get_or l i 0 + byte_values * number_at k l (suc i)

abbrev pub low_first : ℕ → ℕ → List ℕ
low_first zero n = []
low_first (suc k) n = n % byte_values ∷ low_first k (n / byte_values)
