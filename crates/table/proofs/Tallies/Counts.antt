-- A count and its mark: what the two fields say of the true count, and the code's sums and products of them.
--     capped, capped_small     a true count as the two fields, and one within the limit
--     Told, tally_told         what the fields of a tally say of its true count; some-told where there is a tree
--     tally_tuples, tally_count-le      a tally's number of tuples, and that its count is within the limit
--     told-count               a count of one or more isn't 0 in its field
--     capped_sum_is, capped_product_is     the code's counts are the sum and the product, stopped at the limit
-- Assumes nothing.
use mathlib.Core.Path.{◌≡◌, refl, sym, ap₂, ◌∙◌}
use mathlib.Core.Logic.{◌⊎◌, inl, inr, ◌≢◌}
use mathlib.Core.Option.{Option, none, some}
use Prim.Native.Nat.{ℕ, ◌+◌, ◌*◌, ◌/◌, ◌≤◌, ◌<◌}
use native.Mathlib.Decide.{dec_le}
use native.Mathlib.Nat.{le-div_iff_mul-le, mul-le-mul_left, mul-le-mul_right, mul-one, one-mul}
use native.Mathlib.Omega.{arith}
use Rattle.trees.specs.Result.{count_field, mark_field}
use Rattle.trees.specs.Solution.{Sol, Res}
use Rattle.trees.proofs.Counting.Capped.{true_count, count_small, count_large, past}
use Rattle.table.specs.declared.tally.Count.{Count}
use Rattle.table.specs.declared.tally.Tally.{Tally}
use Rattle.table.specs.Tally.{tally_with, tally_of}
use Rattle.table.specs.Sums.{many_count, exact_count, capped_sum, capped_product}
use Rattle.table.proofs.Tallies.Tally.{capped_sum-marked_l, capped_sum-marked_r, capped_sum-past, capped_sum-exact}
use Rattle.table.proofs.Tallies.Tally.{capped_product-marked_l, capped_product-marked_r}
use Rattle.table.proofs.Tallies.Tally.{capped_product-past, capped_product-exact, product_le}

abbrev pub capped : ℕ → ℕ → Count
capped limit n = record { count = count_field limit n; mark = mark_field limit n }

module _ (limit : ℕ) where
  pub capped_small : (n : ℕ) → n ≤ limit → capped limit n ≡ exact_count n
  capped_small n h = let q = count_small limit n h in λ i. record { count = q.0 i; mark = q.1 i }

  capped_large : (n : ℕ) → limit < n → capped limit n ≡ many_count limit
  capped_large n h = let q = count_large limit n h in λ i. record { count = q.0 i; mark = q.1 i }

  -- the fields of a say that the true count is n
  pub data Told (a : Tally) (n : ℕ) : Type 0 where
    small : n ≤ limit → a.count ≡ n → a.mark ≡ 0 → Told a n
    large : limit < n → a.count ≡ limit → a.mark ≡ 1 → Told a n

  pub some-told : (n : ℕ) (x : Sol) → Told (tally_with limit n (some x)) x.0
  some-told n x = go (past limit x.0)
    where
      go : (x.0 ≤ limit) ⊎ (limit < x.0) → Told (tally_with limit n (some x)) x.0
      go (inl h) = let q = count_small limit x.0 h in small h q.0 q.1
      go (inr h) = let q = count_large limit x.0 h in large h q.0 q.1

  pub tally_told : (n : ℕ) (u : Option Sol) → Told (tally_with limit n u) (true_count u)
  tally_told n none = small (omega arith) refl refl
  tally_told n (some x) = some-told n x

  pub tally_tuples : (n : ℕ) (u : Option Sol) → (tally_with limit n u).tuples ≡ n
  tally_tuples n none = refl
  tally_tuples n (some x) = refl

  told-le : (a : Tally) (n : ℕ) → Told a n → a.count ≤ limit
  told-le a n (small h c m) = omega arith
  told-le a n (large h c m) = omega arith

  pub tally_count-le : (x : Res) → (tally_of limit x).count ≤ limit
  tally_count-le x = told-le (tally_of limit x) (true_count x.1) (tally_told x.0 x.1)

  pub told-count : (a : Tally) (n : ℕ) → 1 ≤ limit → 1 ≤ n → Told a n → a.count ≢ 0
  told-count a n l p (small h c m) z = omega arith
  told-count a n l p (large h c m) z = omega arith

  pub capped_sum_is : (a b : Tally) (m n : ℕ) → Told a m → Told b n → capped_sum limit a b ≡ capped limit (m + n)
  capped_sum_is a b m n (large h c k) t = capped_sum-marked_l limit a b k ∙ sym (capped_large (m + n) (omega arith))
  capped_sum_is a b m n (small h c k) (large h' c' k') =
      capped_sum-marked_r limit a b (λ e. omega arith) k' ∙ sym (capped_large (m + n) (omega arith))
  capped_sum_is a b m n (small h c k) (small h' c' k') = go (past limit (m + n))
    where
      go : (m + n ≤ limit) ⊎ (limit < m + n) → capped_sum limit a b ≡ capped limit (m + n)
      go (inl l) =
          capped_sum-exact limit a b (λ e. omega arith) (λ e. omega arith) (omega arith)
          ∙ ap₂ (λ (x y : ℕ). exact_count (x + y)) c c'
          ∙ sym (capped_small (m + n) l)
      go (inr l) =
          capped_sum-past limit a b (λ e. omega arith) (λ e. omega arith) (omega arith) ∙ sym (capped_large (m + n) l)

  module _ (one : 1 ≤ limit) (a b : Tally) (m n : ℕ) (p : 1 ≤ m) (q : 1 ≤ n) where
    many_l : limit < m → limit < m * n
    many_l h = omega (arith, mul-le-mul_left m q, mul-one m)

    many_r : limit < n → limit < m * n
    many_r h = omega (arith, mul-le-mul_right n p, one-mul n)

    pub capped_product_is : Told a m → Told b n → capped_product limit a b ≡ capped limit (m * n)
    capped_product_is t u = go t u
      where
        f : a.count ≢ 0
        f = told-count a m one p t

        g : b.count ≢ 0
        g = told-count b n one q u

        both : m ≤ limit → n ≤ limit → a.count ≡ m → b.count ≡ n → a.mark ≡ 0 → b.mark ≡ 0 → (m * n ≤ limit) ⊎ (limit < m * n)
            → capped_product limit a b ≡ capped limit (m * n)
        both h h' c c' k k' (inl l) =
            capped_product-exact limit a b f g (λ e. omega arith) (λ e. omega arith)
            (rw (c, c') ((le-div_iff_mul-le {k = n} {x = m} {y = limit} q).1 l))
            ∙ ap₂ (λ (x y : ℕ). exact_count (x * y)) c c'
            ∙ sym (capped_small (m * n) l)
        both h h' c c' k k' (inr l) =
            capped_product-past limit a b f g (λ e. omega arith) (λ e. omega arith) (rw (c, c') (less (dec_le m (limit / n))))
            ∙ sym (capped_large (m * n) l)
          where
            less : Dec (m ≤ limit / n) → limit / n < m
            less (yes u) = absurd (omega (arith, product_le limit m n (λ e. omega arith) u))
            less (no u) = omega arith

        go : Told a m → Told b n → capped_product limit a b ≡ capped limit (m * n)
        go (large h c k) v = capped_product-marked_l limit a b f g k ∙ sym (capped_large (m * n) (many_l h))
        go (small h c k) (large h' c' k') =
            capped_product-marked_r limit a b f g (λ e. omega arith) k' ∙ sym (capped_large (m * n) (many_r h'))
        go (small h c k) (small h' c' k') = both h h' c c' k k' (past limit (m * n))
