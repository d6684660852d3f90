-- Member marks: a set of rows is a cluster whose taxa are the rows.
--     Marked m i           row i is marked in m
--     mark_is, marked→, →marked     the mark of row i is the taxon i
--     mark-none, mark-highest, highest-lt     no mark, and the highest
--     mark-lt, lt_of_marks     marks below n are a number below 2 ^ n
--     mark_rest, rest_mark     the marks without one of them
--     mark-low, mark_high      the marks of two words
--     mark-past, mark_over     that of a row from 64 on stands in the high word, and one from 128 on has none
--     shifted                  the mark of one row, as the code makes it
-- Assumes nothing.
use mathlib.Core.Path.{◌≡◌, refl, sym, ap, ◌∙◌, subst}
use mathlib.Core.Bool.{false}
use mathlib.Core.Logic.{◌⊎◌, inl, inr}
use Prim.Native.Nat.{ℕ, zero, suc, ◌+◌, ◌-◌, ◌*◌, ◌/◌, ◌%◌, ◌^◌, ◌≤◌, ◌<◌}
use native.Mathlib.Decide.{ℕ_discrete}
use native.Mathlib.Nat.{one-mul, mul_assoc, mod-lt, div-eq_of_lt, add-mul-div_left, add-mul-mod_self_left}
use native.Mathlib.Numerals.{one-add}
use native.Mathlib.Omega.{arith}
use lib.Bits.{bit_and, and_high}
use lib.Bits as bits
use lib.Dec.{T, eqb, eqb→eq, lit<}
use lib.Pow.{pow_pos, pow_mono, pow-add, shl_exact, shr-shr, high}
use Rattle.laws.specs.Cluster.{inside, highest}
use Rattle.laws.specs.Limits.{word_values, row_cap}
use Rattle.laws.proofs.Cluster.{inside_trans, has_of_inside, rest_inside, union_rest, taxon_of_union, zero_of_inside, taxon-nonzero}
use Rattle.laws.proofs.Digits.{has_lt, pow_has}
use Rattle.laws.proofs.Taxa.{highest-le, highest_gt}
use Rattle.laws.proofs.Tests.{bool_ext, eq→eqb, T_false}
use Rattle.kept.specs.Marks.{has_mark}

-- ---- one mark
-- the digit of a mark, as a cluster has it
mark_digit : (m i : ℕ) → bit_and (2 ^ i) m ≡ (m / 2 ^ i % 2) * 2 ^ i
mark_digit m i =
    bits.and_comm (2 ^ i) m ∙ ap (bit_and m) (let q : 2 ^ i ≡ 2 ^ (1 + i) - 2 ^ i = rw (one-add i) (omega arith) in q) ∙ and_high m 1 i

pub mark_is : (m i : ℕ) → has_mark m i ≡ inside (2 ^ i) m
unfolding inside
mark_is m i =
    bool_ext _ _ (λ h. eq→eqb _ _ (to (eqb→eq _ 1 h)))
    (λ h. from (m / 2 ^ i % 2) refl (mod-lt (m / 2 ^ i) (lit< tt)) (eqb→eq _ _ h))
  where
    to : m / 2 ^ i % 2 ≡ 1 → bit_and (2 ^ i) m ≡ 2 ^ i
    to e = mark_digit m i ∙ ap (λ (x : ℕ). x * 2 ^ i) e ∙ one-mul (2 ^ i)

    from : (d : ℕ) → m / 2 ^ i % 2 ≡ d → d < 2 → bit_and (2 ^ i) m ≡ 2 ^ i → T (eqb (m / 2 ^ i % 2) 1)
    from zero e l h = absurd (omega (arith, pow_pos i, h, mark_digit m i ∙ ap (λ (x : ℕ). x * 2 ^ i) e))
    from (suc zero) e l h = eq→eqb _ _ e
    from (suc (suc d)) e l h = absurd (omega arith)

abbrev pub Marked : ℕ → ℕ → Type 0
Marked m i = T (has_mark m i)

pub marked→ : (m i : ℕ) → Marked m i → T (inside (2 ^ i) m)
marked→ m i h = subst T (mark_is m i) h

pub →marked : (m i : ℕ) → T (inside (2 ^ i) m) → Marked m i
→marked m i h = subst T (sym (mark_is m i)) h

pub mark-none : (i : ℕ) → Marked 0 i → ⊥
mark-none i h = taxon-nonzero i (zero_of_inside (2 ^ i) (marked→ 0 i h))

pub mark-highest : (m : ℕ) → 0 < m → Marked m (highest m)
mark-highest m p = eq→eqb _ 1 (ap (λ (x : ℕ). x % 2) (ap (λ (x : ℕ). x / 2 ^ highest m) whole ∙ high 1 (highest m) less))
  where
    whole : m ≡ 1 * 2 ^ highest m + (m - 2 ^ highest m)
    whole = omega (arith, highest-le m p)

    less : m - 2 ^ highest m < 2 ^ highest m
    less = omega (arith, highest-le m p, highest_gt m p)

pub mark-lt : (n m i : ℕ) → m < 2 ^ n → Marked m i → i < n
mark-lt n m i h k = has_lt n m i h (has_of_inside i m (marked→ m i k))

pub highest-lt : (w m : ℕ) → 0 < m → m < 2 ^ w → highest m < w
highest-lt w m p h = mark-lt w m (highest m) h (mark-highest m p)

pub lt_of_marks : (n m : ℕ) → ((i : ℕ) → Marked m i → i < n) → m < 2 ^ n
lt_of_marks n m f = go (ℕ_discrete m 0)
  where
    go : Dec (m ≡ 0) → m < 2 ^ n
    go (yes e) = omega (arith, pow_pos n)
    go (no d) =
        let p : 0 < m = omega arith in
        let up : 2 ^ suc (highest m) ≤ 2 ^ n = pow_mono (f (highest m) (mark-highest m p)) in
        omega (arith, highest_gt m p)

-- ---- the marks without one of them
pub rest_mark : (m b i : ℕ) → Marked m b → Marked (m - 2 ^ b) i → Marked m i
rest_mark m b i h k = →marked m i (inside_trans (2 ^ i) (m - 2 ^ b) m (marked→ (m - 2 ^ b) i k) (rest_inside (2 ^ b) m (marked→ m b h)))

pub mark_rest : (m b i : ℕ) → Marked m b → Marked m i → (i ≡ b) ⊎ Marked (m - 2 ^ b) i
mark_rest m b i h k = go (taxon_of_union i (2 ^ b) (m - 2 ^ b) (rw (union_rest (2 ^ b) m (marked→ m b h)) (marked→ m i k)))
  where
    go : T (inside (2 ^ i) (2 ^ b)) ⊎ T (inside (2 ^ i) (m - 2 ^ b)) → (i ≡ b) ⊎ Marked (m - 2 ^ b) i
    go (inl x) = inl (pow_has b i (has_of_inside i (2 ^ b) x))
    go (inr x) = inr (→marked (m - 2 ^ b) i x)

-- ---- the marks of two words
module _ (lo hi : ℕ) where
  pub mark_high : (i : ℕ) → lo < word_values → has_mark (lo + word_values * hi) (64 + i) ≡ has_mark hi i
  mark_high i h =
      let top : (lo + word_values * hi) / 2 ^ 64 ≡ hi =
      add-mul-div_left lo hi (lit< tt) ∙ ap (λ (x : ℕ). x + hi) (div-eq_of_lt h) ∙ omega arith in
      ap (λ (x : ℕ). eqb (x % 2) 1) (sym (shr-shr (lo + word_values * hi) 64 i) ∙ ap (λ (x : ℕ). x / 2 ^ i) top)

  pub mark-past : (i : ℕ) → lo < word_values → 64 ≤ i → has_mark (lo + word_values * hi) i ≡ has_mark hi (i - 64)
  mark-past i h k =
      let at : i ≡ 64 + (i - 64) = omega arith in
      ap (has_mark (lo + word_values * hi)) at ∙ mark_high (i - 64) h

  pub mark_over : (i : ℕ) → lo < word_values → hi < word_values → row_cap ≤ i → has_mark (lo + word_values * hi) i ≡ false
  mark_over i h k l = mark-past i h (omega arith) ∙ T_false _ (λ m. omega (arith, mark-lt 64 hi (i - 64) k m))

  pub mark-low : (i : ℕ) → i < 64 → has_mark (lo + word_values * hi) i ≡ has_mark lo i
  mark-low i h = ap (λ (x : ℕ). eqb x 1) (ap (λ (x : ℕ). x % 2) bottom ∙ add-mul-mod_self_left (lo / 2 ^ i) 2 (2 ^ (63 - i) * hi))
    where
      word : word_values ≡ 2 ^ i * (2 * 2 ^ (63 - i))
      word =
          ap (λ (k : ℕ). 2 ^ k) (let q : 64 ≡ i + suc (63 - i) = omega arith in q)
          ∙ pow-add 2 i (suc (63 - i)) ∙ ap (λ (x : ℕ). 2 ^ i * x) (omega arith)

      bottom : (lo + word_values * hi) / 2 ^ i ≡ lo / 2 ^ i + 2 * (2 ^ (63 - i) * hi)
      bottom =
          ap (λ (x : ℕ). (lo + x) / 2 ^ i) (ap (λ (x : ℕ). x * hi) word ∙ regroup)
          ∙ add-mul-div_left lo (2 * (2 ^ (63 - i) * hi)) (pow_pos i)
        where
          regroup : 2 ^ i * (2 * 2 ^ (63 - i)) * hi ≡ 2 ^ i * (2 * (2 ^ (63 - i) * hi))
          regroup = simp mul_assoc

-- row i alone, as the code shifts it
pub shifted : (i : ℕ) → i < 64 → (1 * 2 ^ i) % word_values ≡ 2 ^ i
shifted i h = shl_exact 1 i 64 (lit< tt) (omega arith) ∙ one-mul (2 ^ i)
