-- Signed numbers of any width: the steps of code between a number and its bits in two's complement. The negative numbers are flipped:
-- -1 - z has the bits of z, each one changed. `m` is the last number of the width, whose bits stand for -1.
--     high_fits, high_signed       bits from the middle on stand for -1 less the flipped bits, which fits
--     whole-fits, whole_bits       a number that isn't negative fits, and is its own bits
--     flip_fits, flip_whole, flip_below, flip_bits     a negative number: the flipped one fits, is not negative, is below the middle, and
--                                  gives the bits
--     flip_neg                     a negative number, flipped
--     bits_zero                    the bits are zero where the number is
--     same_bits                    numbers with the same bits are the same
-- Assumes nothing.
use mathlib.Core.Path.{◌≡◌, refl, sym, ap, ◌∙◌}
use mathlib.Core.Bool.{true, false}
use Prim.Native.Nat.{ℕ, zero, suc, ◌+◌, ◌-◌, ◌^◌, ◌≤◌, ◌<◌}
use native.Mathlib.Nat.{zero-add}
use native.Mathlib.Omega.{arith}
use borrow.Author.Tests.{le-ltb, ne_eqb}
use lib.Dec.{T, eqb, leb-zero, eqb-suc-zero}
use lib.IntN.{ℤ, pos, negsuc, nat_abs, ◌-ℤ◌}
use lib.Signed.{mag, le_z, non_neg}
use mir.Facts.{to_z-of_z, to_z_pos, to_z-neg, Fits-lt-pow}
use mir.Syntax.{Width, w8, w16, w32, w64, w128}
use mir.Val.{bits, hbits, Fits, SFits, to_z, of_z}

-- half of the bits stand for negative numbers
halves : (w : Width) → 2 ^ bits w ≡ 2 ^ hbits w + 2 ^ hbits w
halves w8 = refl
halves w16 = refl
halves w32 = refl
halves w64 = refl
halves w128 = refl

-- -1 - n, and -1 - (-(n + 1))
flip_pos : (n : ℕ) → negsuc 0 -ℤ pos n ≡ negsuc n
flip_pos zero = refl
flip_pos (suc n) = rw zero-add

pub flip_neg : (n : ℕ) → negsuc 0 -ℤ negsuc n ≡ pos n
flip_neg n = simp (le-ltb (suc n) 1 (omega arith)) (ap pos (omega arith))

module _ (w : Width) where
  pub high_fits : (k : ℕ) → SFits w (pos k) → SFits w (negsuc 0 -ℤ to_z w k)
  high_fits k f = rw (to_z_pos w {n = k} f.sfits, flip_pos k) (record { sfits = f.sfits })

  module _ (m : ℕ) (last : suc m ≡ 2 ^ bits w) (n : ℕ) (h : 2 ^ hbits w ≤ n) (f : Fits w n) where
    flips_low : m - n < 2 ^ hbits w
    flips_low = omega (arith, last, halves w, Fits-lt-pow f)

    flips_back : 2 ^ bits w - suc (m - n) ≡ n
    flips_back = omega (arith, last, Fits-lt-pow f)

    pub high_signed : to_z w (of_z w (negsuc 0 -ℤ to_z w (m - n))) ≡ to_z w n
    high_signed =
        to_z-of_z (high_fits (m - n) (record { sfits = flips_low }))
        ∙ ap (λ (z : ℤ). negsuc 0 -ℤ z) (to_z_pos w {n = m - n} flips_low)
        ∙ flip_pos (m - n)
        ∙ sym (to_z-neg w (m - n) flips_low)
        ∙ ap (to_z w) flips_back

negative_flip : (z : ℤ) → le_z (pos 0) z ≡ false → negsuc 0 -ℤ z ≡ pos (mag z)
negative_flip (pos n) t = let z : ◌≡◌ {A = ℕ} 0 1 = cc (leb-zero n) in absurd (omega arith)
negative_flip (negsuc n) t = flip_neg n

negative_bits : (w : Width) (m : ℕ) → suc m ≡ 2 ^ bits w → (z : ℤ) → le_z (pos 0) z ≡ false → m - mag z ≡ of_z w z
negative_bits w m last (pos n) t = let z : ◌≡◌ {A = ℕ} 0 1 = cc (leb-zero n) in absurd (omega arith)
negative_bits w m last (negsuc n) t = omega (arith, last)

module _ (w : Width) (z : ℤ) (f : SFits w z) (t : le_z (pos 0) (to_z w (of_z w z)) ≡ false) where
  negative : le_z (pos 0) z ≡ false
  negative = rw (to_z-of_z f) at t

  flip : negsuc 0 -ℤ to_z w (of_z w z) ≡ pos (mag z)
  flip = rw (to_z-of_z f) (negative_flip z negative)

  pub flip_fits : SFits w (negsuc 0 -ℤ to_z w (of_z w z))
  flip_fits = rw flip (record { sfits = f.sfits })

  flip_back : to_z w (of_z w (negsuc 0 -ℤ to_z w (of_z w z))) ≡ pos (mag z)
  flip_back = to_z-of_z flip_fits ∙ flip

  pub flip_whole : let y = to_z w (of_z w (negsuc 0 -ℤ to_z w (of_z w z))) in T (non_neg y) × Fits w (nat_abs y)
  flip_whole = rw flip_back (tt, record { fits = omega (arith, f.sfits, halves w) })

  pub flip_below : nat_abs (to_z w (of_z w (negsuc 0 -ℤ to_z w (of_z w z)))) < 2 ^ hbits w
  flip_below = rw flip_back f.sfits

  pub flip_bits : (m : ℕ) → suc m ≡ 2 ^ bits w → m - nat_abs (to_z w (of_z w (negsuc 0 -ℤ to_z w (of_z w z)))) ≡ of_z w z
  flip_bits m last = rw flip_back (negative_bits w m last z negative)

module _ (w : Width) where
  whole : (z : ℤ) → SFits w z → le_z (pos 0) z ≡ true → (T (non_neg z) × Fits w (nat_abs z)) × (nat_abs z ≡ of_z w z)
  whole (pos n) f t = ((tt, record { fits = omega (arith, f.sfits, halves w) }), refl)
  whole (negsuc n) f t = let z : ◌≡◌ {A = ℕ} 0 1 = cc in absurd (omega arith)

  module _ (z : ℤ) (f : SFits w z) (t : le_z (pos 0) (to_z w (of_z w z)) ≡ true) where
    pub whole-fits : let y = to_z w (of_z w z) in T (non_neg y) × Fits w (nat_abs y)
    whole-fits = rw (to_z-of_z f) (whole z f (rw (to_z-of_z f) at t)).0

    pub whole_bits : nat_abs (to_z w (of_z w z)) ≡ of_z w z
    whole_bits = rw (to_z-of_z f) (whole z f (rw (to_z-of_z f) at t)).1

  -- a test of bits against zero is one of the number
  pub bits_zero : (z : ℤ) → SFits w z → eqb (of_z w z) 0 ≡ eqb (nat_abs z) 0
  bits_zero (pos n) f = refl
  bits_zero (negsuc n) f =
      ne_eqb (2 ^ bits w - suc n) 0 (λ (e : 2 ^ bits w - suc n ≡ 0). omega (arith, f.sfits, halves w)) ∙ sym (eqb-suc-zero n)

  pub same_bits : {a b : ℤ} → SFits w a → SFits w b → of_z w a ≡ of_z w b → a ≡ b
  same_bits f g e = sym (to_z-of_z f) ∙ ap (to_z w) e ∙ to_z-of_z g
