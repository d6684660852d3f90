-- The highest taxon of a cluster, as the code finds it: taxon 0 is put in, and the leading zeros are counted.
--     leading_le          there are fewer leading zeros than digits
--     highest_is          what is left of the digits is the highest taxon, 0 where the cluster has none
-- Assumes nothing.
use mathlib.Core.Path.{◌≡◌, refl, sym, ◌∙◌}
use Prim.Native.Nat.{ℕ, zero, suc, ◌+◌, ◌-◌, ◌*◌, ◌/◌, ◌%◌, ◌^◌, ◌≤◌, ◌<◌}
use native.Mathlib.Nat.{max-eq_right}
use native.Mathlib.Omega.{arith}
use lib.Bits.{bit_or, or_step, or_zero_r, or_lt}
use lib.Count.{count_leading_zeros, leading_top}
use lib.Pow.{pow_pos}
use Rattle.laws.specs.Cluster.{highest, halvings}
use Rattle.laws.proofs.Taxa.{highest-only}

below : (c : ℕ) → c % 2 ≤ 1
below c = omega arith

-- the number of a cluster with taxon 0 put in
with_zero : (c : ℕ) → bit_or c 1 ≡ c / 2 * 2 + 1
with_zero c = omega (arith, or_step c 1, or_zero_r (c / 2), max-eq_right (below c))

highest-none : highest 0 ≡ 0
unfolding halvings
highest-none = refl

-- taxon 0 changes the highest taxon of no cluster
highest_of : (c t : ℕ) → 2 ^ t ≤ bit_or c 1 → bit_or c 1 < 2 ^ suc t → highest c ≡ t
highest_of zero zero h k = highest-none
highest_of zero (suc t) h k = absurd (omega (arith, with_zero 0, pow_pos t))
highest_of (suc c) zero h k = highest-only (suc c) 0 (omega arith) (omega (arith, with_zero (suc c)))
highest_of (suc c) (suc t) h k =
    highest-only (suc c) (suc t) (omega (arith, with_zero (suc c))) (omega (arith, with_zero (suc c)))

module _ (w c : ℕ) (h : c < 2 ^ suc w) where
  top : (t : ℕ) × (count_leading_zeros (suc w) (bit_or c 1) + suc t ≡ suc w) × (2 ^ t ≤ bit_or c 1) × (bit_or c 1 < 2 ^ suc t)
  top = leading_top (suc w) (bit_or c 1) (omega (arith, with_zero c)) (or_lt (suc w) c 1 h (omega (arith, pow_pos w)))

  pub leading_le : count_leading_zeros (suc w) (bit_or c 1) ≤ w
  leading_le = omega (arith, top.1)

  pub highest_is : w - count_leading_zeros (suc w) (bit_or c 1) ≡ highest c
  highest_is = let e : w - count_leading_zeros (suc w) (bit_or c 1) ≡ top.0 = omega (arith, top.1) in
      e ∙ sym (highest_of c top.0 top.2 top.3)
