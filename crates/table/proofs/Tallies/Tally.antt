-- The operations on tallies, case by case.
--     capped_sum-…, capped_product-…      the count of a sum, and of a product
--     product_le                       a product that the division doesn't find past the limit
--     is_larger-…, is_before_by, keeps_first-…     the tie rule, the order, and whose best a sum has
--     plus_tally-first, plus_tally_second        a sum with the best of the first, or of the second
--     under_tally_dead, under_tally-live         one more child: no trees, or the fields joined
-- Assumes nothing.
use mathlib.Core.Path.{◌≡◌, refl}
use mathlib.Core.Logic.{◌≢◌}
use mathlib.Core.Bool.{true, false, cond}
use Prim.Native.Nat.{ℕ, zero, suc, ◌+◌, ◌-◌, ◌*◌, ◌/◌, ◌≤◌, ◌<◌}
use native.Mathlib.Nat.{le-div_iff_mul-le}
use native.Mathlib.Omega.{arith}
use borrow.Author.Tests.{eq-eqb, ne_eqb, lt-ltb, le-ltb}
use lib.Dec.{ltb}
use lib.IntN.{ℤ, ◌+ℤ◌}
use lib.Signed.{lt_z}
use Rattle.table.specs.declared.tally.Count.{Count}
use Rattle.table.specs.declared.tally.Tally.{Tally}
use Rattle.table.specs.Sums.{many_count, exact_count, capped_sum, capped_product, is_larger, is_before, keeps_first}
use Rattle.table.specs.Sums.{no_tally, with_tuples, with_count, plus_tally, join_tally, under_tally}

-- ---- counts

module _ (limit : ℕ) (a b : Tally) where
  pub capped_sum-marked_l : a.mark ≡ 1 → capped_sum limit a b ≡ many_count limit
  unfolding capped_sum
  capped_sum-marked_l h = simp (eq-eqb _ _ h)

  module _ (f : a.mark ≢ 1) where
    pub capped_sum-marked_r : b.mark ≡ 1 → capped_sum limit a b ≡ many_count limit
    unfolding capped_sum
    capped_sum-marked_r h = simp (ne_eqb _ _ f, eq-eqb _ _ h)

    module _ (g : b.mark ≢ 1) where
      pub capped_sum-past : limit - b.count < a.count → capped_sum limit a b ≡ many_count limit
      unfolding capped_sum
      capped_sum-past h = simp (ne_eqb _ _ f, ne_eqb _ _ g, lt-ltb _ _ h)

      pub capped_sum-exact : a.count ≤ limit - b.count → capped_sum limit a b ≡ exact_count (a.count + b.count)
      unfolding capped_sum
      capped_sum-exact h = simp (ne_eqb _ _ f, ne_eqb _ _ g, le-ltb _ _ h)

  pub capped_product-none_l : a.count ≡ 0 → capped_product limit a b ≡ exact_count 0
  unfolding capped_product
  capped_product-none_l h = simp (eq-eqb _ _ h)

  module _ (p : a.count ≢ 0) where
    pub capped_product-none_r : b.count ≡ 0 → capped_product limit a b ≡ exact_count 0
    unfolding capped_product
    capped_product-none_r h = simp (ne_eqb _ _ p, eq-eqb _ _ h)

    module _ (q : b.count ≢ 0) where
      pub capped_product-marked_l : a.mark ≡ 1 → capped_product limit a b ≡ many_count limit
      unfolding capped_product
      capped_product-marked_l h = simp (ne_eqb _ _ p, ne_eqb _ _ q, eq-eqb _ _ h)

      module _ (f : a.mark ≢ 1) where
        pub capped_product-marked_r : b.mark ≡ 1 → capped_product limit a b ≡ many_count limit
        unfolding capped_product
        capped_product-marked_r h = simp (ne_eqb _ _ p, ne_eqb _ _ q, ne_eqb _ _ f, eq-eqb _ _ h)

        module _ (g : b.mark ≢ 1) where
          pub capped_product-past : limit / b.count < a.count → capped_product limit a b ≡ many_count limit
          unfolding capped_product
          capped_product-past h = simp (ne_eqb _ _ p, ne_eqb _ _ q, ne_eqb _ _ f, ne_eqb _ _ g, lt-ltb _ _ h)

          pub capped_product-exact : a.count ≤ limit / b.count → capped_product limit a b ≡ exact_count (a.count * b.count)
          unfolding capped_product
          capped_product-exact h = simp (ne_eqb _ _ p, ne_eqb _ _ q, ne_eqb _ _ f, ne_eqb _ _ g, le-ltb _ _ h)

pub product_le : (limit m n : ℕ) → n ≢ 0 → m ≤ limit / n → m * n ≤ limit
product_le limit m zero f h = absurd (f refl)
product_le limit m (suc n) f h = (le-div_iff_mul-le {k = suc n} {x = m} {y = limit} (omega arith)).0 h

-- ---- the order

module _ (a b : Tally) where
  pub is_larger_high : a.high ≡ b.high → is_larger a b ≡ ltb b.low a.low
  is_larger_high h = simp (eq-eqb _ _ h)

  pub is_larger-low : a.high ≢ b.high → is_larger a b ≡ ltb b.high a.high
  is_larger-low h = simp (ne_eqb _ _ h)

  pub is_before_by : is_before a b ≡ cond (lt_z b.best a.best) true (cond (lt_z a.best b.best) false (is_larger a b))
  unfolding is_before
  is_before_by = refl

  pub keeps_first-none_r : b.count ≡ 0 → keeps_first a b ≡ true
  unfolding keeps_first
  keeps_first-none_r h = simp (eq-eqb _ _ h)

  module _ (f : b.count ≢ 0) where
    pub keeps_first-none_l : a.count ≡ 0 → keeps_first a b ≡ false
    unfolding keeps_first
    keeps_first-none_l h = simp (ne_eqb _ _ f, eq-eqb _ _ h)

    pub keeps_first_both : a.count ≢ 0 → keeps_first a b ≡ is_before a b
    unfolding keeps_first
    keeps_first_both h = simp (ne_eqb _ _ f, ne_eqb _ _ h)

-- ---- sums, and one more child; c is the count that the code has worked out, z no tally, w the joint weight

module _ (limit : ℕ) (a b : Tally) (c : Count) where
  abbrev both : ℕ
  both = a.tuples + b.tuples

  pub plus_tally-first : c ≡ capped_sum limit a b → keeps_first a b ≡ true → with_count a both c ≡ plus_tally limit a b
  unfolding plus_tally
  plus_tally-first e h = rw (e, h)

  pub plus_tally_second : c ≡ capped_sum limit a b → keeps_first a b ≡ false → with_count b both c ≡ plus_tally limit a b
  unfolding plus_tally
  plus_tally_second e h = rw (e, h)

  pub under_tally_dead : (z : Tally) → c ≡ capped_product limit a b → z ≡ no_tally → c.count ≡ 0
      → with_tuples z b.tuples ≡ under_tally limit a b
  unfolding under_tally
  under_tally_dead z e f h = rw (← e, f, eq-eqb c.count 0 h)

  pub under_tally-live : (w : ℤ) → c ≡ capped_product limit a b → w ≡ a.best +ℤ b.best → c.count ≢ 0
      → join_tally a b c w ≡ under_tally limit a b
  unfolding under_tally
  under_tally-live w e f h = rw (← e, ← f, ne_eqb c.count 0 h)
