-- Numbers in decimal (RULES 9 and 10). Laws: `proofs/Decimal.antt`.
--     figure d       the byte of a figure, 0 to 9
--     decimal n      the figures of n, the most significant first, with no leading zero
-- Assumes nothing.
use Rattle.std.specs.Prelude.{cond, List, [], ◌∷◌, ◌++◌, ℕ, zero, suc, ◌+◌, ◌/◌, ◌%◌, ltb}

abbrev pub figure : ℕ → ℕ
figure d = 48 + d

-- n has no more than k + 1 figures: below ten it is its one figure, else those of a tenth of it and the last
unfoldable pub figures : ℕ → ℕ → List ℕ
figures zero n = figure n ∷ []
figures (suc k) n = let longer = figures k (n / 10) ++ (figure (n % 10) ∷ []) in cond (ltb n 10) (figure n ∷ []) longer

abbrev pub decimal : ℕ → List ℕ
decimal n = figures n n
