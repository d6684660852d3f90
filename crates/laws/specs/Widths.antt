-- What is asked of a width so that the code and the proofs serve it. Shown for `narrow` in `proofs/Width.antt`.
--     choose n k       the sublists of k elements out of n
--     few n m          the sublists of 2 to m elements out of n
--     WidthFacts W     the facts
-- Assumes nothing.
use Rattle.std.specs.Prelude.{◌≡◌, ℕ, zero, suc, ◌+◌, ◌-◌, ◌*◌, ◌≤◌, ◌<◌}
use Rattle.laws.specs.Limits.{Width, degree_high, row_cap, word_values}

unfoldable pub choose : ℕ → ℕ → ℕ
choose n zero = 1
choose zero (suc k) = 0
choose (suc n) (suc k) = choose n k + choose n (suc k)

abbrev pub few : ℕ → ℕ → ℕ
few n zero = 0
few n (suc zero) = 0
few n (suc (suc m)) = choose n (suc (suc m)) + few n (suc m)

pub record WidthFacts (W : Width) : Type 0 where
  -- a count of one can be told, and every count that is told fits a word
  pub counts : 1 ≤ W.count_max
  pub word : W.count_max < word_values
  -- a cluster fits a word, and the arrays have room for the rows
  pub taxa : W.taxa ≤ 64
  pub rows : W.rows ≤ row_cap
  -- a cluster is its bytes; a record has four bytes more for the weight, one for the state and three to spare; a list is whole records
  pub cluster : W.taxa ≡ 8 * W.cluster_bytes
  pub spare : W.record_bytes ≡ W.cluster_bytes + 8
  pub whole : W.list_bytes ≡ W.rows * W.record_bytes
  -- no row has more tuples of the other rows than a row length tells, whatever the degree bound
  pub tuples : (d n : ℕ) → d ≤ degree_high → n < W.rows → few n (d - 1) ≤ W.length_max
  -- the longest text has five bytes for each taxon, one less for each of the ten that have one figure, and two less in all
  pub ten : 10 ≤ W.taxa
  pub text : W.text_bytes + 12 ≡ 5 * W.taxa
