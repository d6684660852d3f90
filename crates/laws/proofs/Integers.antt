-- The integers for `omega`, which reads naturals only: z is `up z` less `dn z`, and one of the two is 0. An order, an equation or a sum of
-- integers is then a linear statement on naturals, and each law below is one such statement.
--     up, dn                       the two parts
--     eq_of_parts, sum_parts, abs_parts       equality, sums and absolute values by parts
--     lt→parts, parts→lt           the test `lt_z` by parts, both ways
--     lt_z_trans, lt_z_irrefl, lt_z_add, Tri, tri     a strict order that sums keep, any two compared
--     abs_sum-le, mag_le_abs, zero_of_abs     absolute values: of sums, and of zero
--     within_low, within_high      a bound either way, one end after the other
--     add_swap                     the first two of three change places
-- Assumes nothing.
use mathlib.Core.Path.{◌≡◌, refl, sym, ap, ◌∙◌}
use mathlib.Core.Bool.{Bool, true, false}
use Prim.Native.Nat.{ℕ, zero, suc, ◌+◌, ◌≤◌, ◌<◌}
use native.Mathlib.Decide.{dec_le}
use native.Mathlib.Omega.{arith}
use lib.Dec.{T, ltb, ltb→lt, lt→ltb}
use lib.IntN.{ℤ, pos, negsuc, nat_abs, neg_ℤ, sub_ℕ, ◌+ℤ◌, +ℤ_comm, +ℤ_assoc}
use lib.Signed.{mag, lt_z, le_z}
use borrow.Author.Tests.{le-leb, lt-leb, ltb-true, ltb-false}
use Rattle.laws.specs.Limits.{is_within}

abbrev pub up : ℤ → ℕ
up (pos n) = n
up (negsuc n) = 0

abbrev pub dn : ℤ → ℕ
dn (pos n) = 0
dn (negsuc n) = suc n

-- ---- equality, sums, absolute values

pub eq_of_parts : (a b : ℤ) → up a + dn b ≡ up b + dn a → a ≡ b
eq_of_parts (pos a) (pos b) e = ap pos (omega arith)
eq_of_parts (pos a) (negsuc b) e = absurd (omega arith)
eq_of_parts (negsuc a) (pos b) e = absurd (omega arith)
eq_of_parts (negsuc a) (negsuc b) e = ap negsuc (omega arith)

sub_parts : (t : Bool) (a b : ℕ) → ltb a b ≡ t → up (sub_ℕ a b) + b ≡ dn (sub_ℕ a b) + a
sub_parts true a b e = let h = ltb-true a b e in rw e (omega arith)
sub_parts false a b e = let h = ltb-false a b e in rw e (omega arith)

pub sum_parts : (a b : ℤ) → up (a +ℤ b) + (dn a + dn b) ≡ dn (a +ℤ b) + (up a + up b)
sum_parts (pos a) (pos b) = omega arith
sum_parts (pos a) (negsuc b) = omega (arith, sub_parts (ltb a (suc b)) a (suc b) refl)
sum_parts (negsuc a) (pos b) = omega (arith, sub_parts (ltb b (suc a)) b (suc a) refl)
sum_parts (negsuc a) (negsuc b) = omega arith

pub abs_parts : (z : ℤ) → nat_abs z ≡ up z + dn z
abs_parts (pos n) = omega arith
abs_parts (negsuc n) = omega arith

abs_le_parts : (z : ℤ) (u d : ℕ) → up z + d ≡ dn z + u → nat_abs z ≤ u + d
abs_le_parts (pos n) u d e = omega arith
abs_le_parts (negsuc n) u d e = omega arith

pub abs_sum-le : (a b : ℤ) → nat_abs (a +ℤ b) ≤ nat_abs a + nat_abs b
abs_sum-le a b = omega (arith, abs_le_parts (a +ℤ b) (up a + up b) (dn a + dn b) (sum_parts a b), abs_parts a, abs_parts b)

pub mag_le_abs : (z : ℤ) → mag z ≤ nat_abs z
mag_le_abs (pos n) = omega arith
mag_le_abs (negsuc n) = omega arith

pub zero_of_abs : (z : ℤ) → nat_abs z ≡ 0 → z ≡ pos 0
zero_of_abs (pos n) e = ap pos e
zero_of_abs (negsuc n) e = absurd (omega arith)

pub within_low : (m : ℕ) (z : ℤ) → lt_z z (neg_ℤ (pos m)) ≡ true → is_within m z ≡ false
within_low zero (pos n) e = absurd (omega (arith, ltb-true n 0 e))
within_low (suc m) (pos n) e = let z : ◌≡◌ {A = ℕ} 0 1 = cc in absurd (omega arith)
within_low zero (negsuc n) e = lt-leb (suc n) 0 (omega arith)
within_low (suc m) (negsuc n) e = lt-leb (suc n) (suc m) (omega (arith, ltb-true m n e))

pub within_high : (m : ℕ) (z : ℤ) → lt_z z (neg_ℤ (pos m)) ≡ false → le_z z (pos m) ≡ is_within m z
within_high m (pos n) e = refl
within_high zero (negsuc n) e = let z : ◌≡◌ {A = ℕ} 0 1 = cc in absurd (omega arith)
within_high (suc m) (negsuc n) e = sym (le-leb (suc n) (suc m) (omega (arith, ltb-false m n e)))

pub add_swap : (a b c : ℤ) → a +ℤ (b +ℤ c) ≡ b +ℤ (a +ℤ c)
add_swap a b c = sym (+ℤ_assoc a b c) ∙ ap (λ (x : ℤ). x +ℤ c) (+ℤ_comm a b) ∙ +ℤ_assoc b a c

-- ---- the order

pub lt→parts : (a b : ℤ) → T (lt_z a b) → up a + dn b < up b + dn a
lt→parts (pos a) (pos b) h = omega (arith, ltb→lt a b h)
lt→parts (pos a) (negsuc b) h = absurd h
lt→parts (negsuc a) (pos b) h = omega arith
lt→parts (negsuc a) (negsuc b) h = omega (arith, ltb→lt b a h)

pub parts→lt : (a b : ℤ) → up a + dn b < up b + dn a → T (lt_z a b)
parts→lt (pos a) (pos b) h = lt→ltb a b (omega arith)
parts→lt (pos a) (negsuc b) h = absurd (omega arith)
parts→lt (negsuc a) (pos b) h = tt
parts→lt (negsuc a) (negsuc b) h = lt→ltb b a (omega arith)

pub lt_z_trans : (a b c : ℤ) → T (lt_z a b) → T (lt_z b c) → T (lt_z a c)
lt_z_trans a b c h k = parts→lt a c (omega (arith, lt→parts a b h, lt→parts b c k))

pub lt_z_irrefl : (a : ℤ) → T (lt_z a a) → ⊥
lt_z_irrefl a h = omega (arith, lt→parts a a h)

pub lt_z_add : (c a b : ℤ) → T (lt_z a b) → T (lt_z (a +ℤ c) (b +ℤ c))
lt_z_add c a b h = parts→lt (a +ℤ c) (b +ℤ c) (omega (arith, lt→parts a b h, sum_parts a c, sum_parts b c))

pub data Tri (a b : ℤ) : Type 0 where
  less : T (lt_z a b) → Tri a b
  same : a ≡ b → Tri a b
  more : T (lt_z b a) → Tri a b

pub tri : (a b : ℤ) → Tri a b
tri a b = go (dec_le (up a + dn b) (up b + dn a)) (dec_le (up b + dn a) (up a + dn b))
  where
    go : Dec (up a + dn b ≤ up b + dn a) → Dec (up b + dn a ≤ up a + dn b) → Tri a b
    go (yes h) (yes k) = Tri.same (eq_of_parts a b (omega arith))
    go (yes h) (no k) = Tri.less (parts→lt a b (omega arith))
    go (no h) k = Tri.more (parts→lt b a (omega arith))
