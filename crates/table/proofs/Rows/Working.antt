-- The mark of a row in two words, as the code has it, and a row by itself.
--     low_mark-none, high_mark-none     a word without the mark
--     low_mark_is, high_mark_is         the words of 2 ^ i
--     own_is                            a row by itself, field by field
-- Assumes nothing.
use mathlib.Core.Path.{◌≡◌, sym, ap, ◌∙◌}
use mathlib.Core.Bool.{Bool, cond}
use Prim.Native.Nat.{ℕ, ◌+◌, ◌-◌, ◌*◌, ◌/◌, ◌%◌, ◌^◌, ◌≤◌, ◌<◌}
use native.Mathlib.Decide.{dec_lt}
use native.Mathlib.Nat.{mod-eq_of_lt, div-eq_of_lt}
use native.Mathlib.Omega.{arith}
use lib.IntN.{ℤ}
use lib.Pow.{pow-lt, pow-add, high, low}
use borrow.Author.Tests.{lt-ltb, le-ltb}
use Rattle.laws.specs.Limits.{word_values}
use Rattle.table.specs.declared.tally.Tally.{Tally}
use Rattle.table.specs.Tally.{low_mark, high_mark, own_tally}

-- ---- a word without the mark

module _ (i : ℕ) where
  pub low_mark-none : 64 ≤ i → 0 ≡ low_mark i
  low_mark-none h = ap (λ (b : Bool). cond b (2 ^ i) 0) (sym (le-ltb i 64 h))

  pub high_mark-none : i < 64 → 0 ≡ high_mark i
  high_mark-none h = ap (λ (b : Bool). cond b 0 (2 ^ (i - 64))) (sym (lt-ltb i 64 h))

-- ---- the words of 2 ^ i

pow_split : (i : ℕ) → 64 ≤ i → 2 ^ i ≡ 2 ^ (i - 64) * 2 ^ 64 + 0
pow_split i h =
    ap (λ (n : ℕ). 2 ^ n) (let q : i ≡ (i - 64) + 64 = omega arith in q)
    ∙ pow-add 2 (i - 64) 64
    ∙ (let q : 2 ^ (i - 64) * 2 ^ 64 ≡ 2 ^ (i - 64) * 2 ^ 64 + 0 = omega arith in q)

pub low_mark_is : (i : ℕ) → low_mark i ≡ 2 ^ i % word_values
low_mark_is i = go (dec_lt i 64)
  where
    go : Dec (i < 64) → low_mark i ≡ 2 ^ i % word_values
    go (yes h) = ap (λ (b : Bool). cond b (2 ^ i) 0) (lt-ltb i 64 h) ∙ sym (mod-eq_of_lt (pow-lt h))
    go (no n) =
        let h : 64 ≤ i = omega arith in
        sym (low_mark-none i h) ∙ sym (ap (λ (n : ℕ). n % word_values) (pow_split i h) ∙ low (2 ^ (i - 64)) 64 {lo = 0} (omega arith))

pub high_mark_is : (i : ℕ) → high_mark i ≡ 2 ^ i / word_values
high_mark_is i = go (dec_lt i 64)
  where
    go : Dec (i < 64) → high_mark i ≡ 2 ^ i / word_values
    go (yes h) = sym (high_mark-none i h) ∙ sym (div-eq_of_lt (pow-lt h))
    go (no n) =
        let h : 64 ≤ i = omega arith in
        ap (λ (b : Bool). cond b 0 (2 ^ (i - 64))) (le-ltb i 64 h)
        ∙ sym (ap (λ (n : ℕ). n / word_values) (pow_split i h) ∙ high (2 ^ (i - 64)) 64 {lo = 0} (omega arith))

-- ---- a row by itself

pub own_is : (n i l h : ℕ) (w z : ℤ) → z ≡ w → l ≡ low_mark i → h ≡ high_mark i
    → ◌≡◌ {A = Tally} (record { tuples = n; count = 1; mark = 0; best = z; low = l; high = h }) (own_tally n w i)
own_is n i l h w z p q r = λ k. record { tuples = n; count = 1; mark = 0; best = p k; low = q k; high = r k }
