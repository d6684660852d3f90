-- The digits of a number, and that they decide it. A cluster's digit t is 1 where taxon t is in it.
--     digit c t          digit t of c
--     Has c t            digit t is 1: c has taxon t
--     digit_two, digit_ext     a digit is 0 or 1; numbers with the same digits are equal
--     has_ext            numbers with the same taxa are equal
--     and_has, has_and, or_has, has_or_l, has_or_r     what bit_and and bit_or have
--     xor_digit          the digits of bit_xor
--     not_has_zero       0 has no taxon
--     has_pow, pow_has   a power of two has its own taxon, and no other
--     has_lt             the taxa of a number below 2 ^ w are below w
--     has_of_nonzero     a number that isn't 0 has a taxon
-- Assumes nothing.
use mathlib.Core.Path.{◌≡◌, refl, sym, ap, ap₂, ◌∙◌, subst}
use mathlib.Core.Logic.{◌⊎◌, inl, inr, ◌≢◌}
use Prim.Native.Nat.{ℕ, zero, suc, ◌+◌, ◌*◌, ◌/◌, ◌%◌, ◌^◌, ◌≤◌, ◌<◌}
use native.Mathlib.Decide.{ℕ_discrete, dec_le}
use native.Mathlib.Nat.{mod-lt, zero-div, div-one, div_self, div-add-mod', le_trans, div-eq_of_lt}
use native.Mathlib.Numerals.{one-add}
use native.Mathlib.Omega.{arith}
use lib.Arith.{bin_ind}
use lib.Bits.{bit_and, bit_or, bit_xor, and_shr, and_mod, or_shr, or_mod, or_comm, xor_shr, xor_mod}
use lib.Dec.{lit<}
use lib.Pow.{shr-shr, pow_pos, pow_mono}

pub digit : ℕ → ℕ → ℕ
digit c t = c / 2 ^ t % 2

two : (n : ℕ) → n < 2 → (n ≡ 0) ⊎ (n ≡ 1)
two zero h = inl refl
two (suc zero) h = inr refl
two (suc (suc n)) h = absurd (omega arith)

pub digit_two : (c t : ℕ) → (digit c t ≡ 0) ⊎ (digit c t ≡ 1)
unfolding digit
digit_two c t = two (c / 2 ^ t % 2) (mod-lt (c / 2 ^ t) (lit< tt))

and_digit : (a b t : ℕ) → digit (bit_and a b) t ≡ bit_and (digit a t) (digit b t)
unfolding digit
and_digit a b t = ap (λ (x : ℕ). x % 2) (and_shr a b t) ∙ and_mod (a / 2 ^ t) (b / 2 ^ t) 1

or_digit : (a b t : ℕ) → digit (bit_or a b) t ≡ bit_or (digit a t) (digit b t)
unfolding digit
or_digit a b t = ap (λ (x : ℕ). x % 2) (or_shr a b t) ∙ or_mod (a / 2 ^ t) (b / 2 ^ t) 1

digit_suc : (a t : ℕ) → digit (a / 2) t ≡ digit a (1 + t)
unfolding digit
digit_suc a t = ap (λ (x : ℕ). x % 2) (shr-shr a 1 t)

digit_zero : (t : ℕ) → digit 0 t ≡ 0
unfolding digit
digit_zero t = ap (λ (x : ℕ). x % 2) (zero-div (2 ^ t))

digit_low : (a : ℕ) → digit a 0 ≡ a % 2
unfolding digit
digit_low a = ap (λ (x : ℕ). x % 2) (div-one a)

halves_eq : (a b : ℕ) → a / 2 ≡ b / 2 → a % 2 ≡ b % 2 → a ≡ b
halves_eq a b p q = sym (div-add-mod' a 2) ∙ ap₂ (λ (x y : ℕ). x * 2 + y) p q ∙ div-add-mod' b 2

same_step : (a b : ℕ) → ((t : ℕ) → digit a t ≡ digit b t) → (t : ℕ) → digit (a / 2) t ≡ digit (b / 2) t
same_step a b h t = digit_suc a t ∙ h (1 + t) ∙ sym (digit_suc b t)

zero_ext : (b : ℕ) → ((t : ℕ) → digit b t ≡ 0) → b ≡ 0
zero_ext =
    bin_ind (λ (b : ℕ). ((t : ℕ) → digit b t ≡ 0) → b ≡ 0) (λ h. refl)
    (λ b ih h. halves_eq b 0 (ih (λ t. digit_suc b t ∙ h (1 + t))) (sym (digit_low b) ∙ h 0))

pub digit_ext : (a b : ℕ) → ((t : ℕ) → digit a t ≡ digit b t) → a ≡ b
digit_ext =
    bin_ind (λ (a : ℕ). (b : ℕ) → ((t : ℕ) → digit a t ≡ digit b t) → a ≡ b)
    (λ b h. sym (zero_ext b (λ t. sym (h t) ∙ digit_zero t)))
    (λ a ih b h. halves_eq a b (ih (b / 2) (same_step a b h)) (sym (digit_low a) ∙ h 0 ∙ digit_low b))

-- ---- a taxon in a cluster, as a type
pub record Has (c t : ℕ) : Type 0 where
  pub one : digit c t ≡ 1

dec_has : (c t : ℕ) → Has c t ⊎ (digit c t ≡ 0)
dec_has c t = go (digit_two c t)
  where
    go : (digit c t ≡ 0) ⊎ (digit c t ≡ 1) → Has c t ⊎ (digit c t ≡ 0)
    go (inl e) = inr e
    go (inr e) = inl (record { one = e })

no_one : (c t : ℕ) → Has c t → digit c t ≡ 0 → ⊥
no_one c t h e = omega (arith, h.one)

pub has_ext : (a b : ℕ) → ((t : ℕ) → Has a t → Has b t) → ((t : ℕ) → Has b t → Has a t) → a ≡ b
has_ext a b f g = digit_ext a b (λ t. go t (dec_has a t) (dec_has b t))
  where
    go : (t : ℕ) → Has a t ⊎ (digit a t ≡ 0) → Has b t ⊎ (digit b t ≡ 0) → digit a t ≡ digit b t
    go t (inl h) (inl k) = h.one ∙ sym k.one
    go t (inl h) (inr e) = absurd (no_one b t (f t h) e)
    go t (inr e) (inl k) = absurd (no_one a t (g t k) e)
    go t (inr e) (inr e') = e ∙ sym e'

pub and_has : (a b t : ℕ) → Has (bit_and a b) t → Has a t × Has b t
and_has a b t h = go (dec_has a t) (dec_has b t)
  where
    d : bit_and (digit a t) (digit b t) ≡ 1
    d = sym (and_digit a b t) ∙ h.one

    go : Has a t ⊎ (digit a t ≡ 0) → Has b t ⊎ (digit b t ≡ 0) → Has a t × Has b t
    go (inl x) (inl y) = (x, y)
    go (inl x) (inr e) = absurd (let z : 0 ≡ 1 = sym (ap₂ bit_and x.one e) ∙ d in omega arith)
    go (inr e) y = absurd (let z : 0 ≡ 1 = sym (ap (λ (k : ℕ). bit_and k (digit b t)) e) ∙ d in omega arith)

pub has_and : (a b t : ℕ) → Has a t → Has b t → Has (bit_and a b) t
has_and a b t x y = record { one = and_digit a b t ∙ ap₂ bit_and x.one y.one }

pub or_has : (a b t : ℕ) → Has (bit_or a b) t → Has a t ⊎ Has b t
or_has a b t h = go (dec_has a t) (dec_has b t)
  where
    go : Has a t ⊎ (digit a t ≡ 0) → Has b t ⊎ (digit b t ≡ 0) → Has a t ⊎ Has b t
    go (inl x) y = inl x
    go (inr e) (inl y) = inr y
    go (inr e) (inr e') = absurd (let z : 0 ≡ 1 = sym (ap₂ bit_or e e') ∙ sym (or_digit a b t) ∙ h.one in omega arith)

pub has_or_l : (a b t : ℕ) → Has a t → Has (bit_or a b) t
has_or_l a b t x = record { one = or_digit a b t ∙ go (dec_has b t) }
  where
    go : Has b t ⊎ (digit b t ≡ 0) → bit_or (digit a t) (digit b t) ≡ 1
    go (inl y) = ap₂ bit_or x.one y.one
    go (inr e) = ap₂ bit_or x.one e

pub has_or_r : (a b t : ℕ) → Has b t → Has (bit_or a b) t
has_or_r a b t y = subst (λ (n : ℕ). Has n t) (or_comm b a) (has_or_l b a t y)

pub not_has_zero : (t : ℕ) → Has 0 t → ⊥
not_has_zero t h = no_one 0 t h (digit_zero t)

-- ---- a nonzero cluster has a taxon
pub has_of_nonzero : (w a : ℕ) → a < 2 ^ w → a ≢ 0 → (t : ℕ) × (t < w) × Has a t
has_of_nonzero zero a h n = absurd (n (omega arith))
has_of_nonzero (suc w) a h n = go (dec_has a 0) (ℕ_discrete (a / 2) 0) (λ f. has_of_nonzero w (a / 2) (omega arith) f)
  where
    up : (t : ℕ) × (t < w) × Has (a / 2) t → (t : ℕ) × (t < suc w) × Has a t
    up p = (1 + p.0, omega (arith, p.1), record { one = sym (digit_suc a p.0) ∙ p.2.one })

    go : Has a 0 ⊎ (digit a 0 ≡ 0) → Dec (a / 2 ≡ 0) → (a / 2 ≢ 0 → (t : ℕ) × (t < w) × Has (a / 2) t) → (t : ℕ) × (t < suc w) × Has a t
    go (inl x) d r = (0, omega arith, x)
    go (inr e) (yes z) r = absurd (n (halves_eq a 0 z (sym (digit_low a) ∙ e)))
    go (inr e) (no f) r = up (r f)

-- ---- one-taxon clusters
small : (t : ℕ) → digit 1 (suc t) ≡ 0
unfolding digit
small t = ap (λ (x : ℕ). x % 2) (div-eq_of_lt {n = 1} {m = 2 ^ suc t} (omega (arith, pow_pos t)))

high_zero : (w a t : ℕ) → a < 2 ^ w → w ≤ t → digit a t ≡ 0
unfolding digit
high_zero w a t h l = ap (λ (x : ℕ). x % 2) (div-eq_of_lt {n = a} {m = 2 ^ t} (le_trans h (pow_mono l)))

pub pow_has : (s t : ℕ) → Has (2 ^ s) t → t ≡ s
pow_has zero zero h = refl
pow_has zero (suc t) h = absurd (no_one 1 (suc t) h (small t))
pow_has (suc s) zero h = absurd (no_one (2 ^ suc s) 0 h (digit_low (2 ^ suc s) ∙ omega arith))
pow_has (suc s) (suc t) h = ap suc (pow_has s t (record { one = down ∙ h.one }))
  where
    half : 2 ^ s ≡ 2 ^ suc s / 2
    half = omega arith

    down : digit (2 ^ s) t ≡ digit (2 ^ suc s) (suc t)
    down = ap (λ (x : ℕ). digit x t) half ∙ digit_suc (2 ^ suc s) t ∙ ap (digit (2 ^ suc s)) (one-add t)

digit_pow : (t : ℕ) → digit (2 ^ t) t ≡ 1
unfolding digit
digit_pow t = ap (λ (x : ℕ). x % 2) (div_self (pow_pos t))

pub has_pow : (t : ℕ) → Has (2 ^ t) t
has_pow t = record { one = digit_pow t }

pub xor_digit : (a b t : ℕ) → digit (bit_xor a b) t ≡ bit_xor (digit a t) (digit b t)
unfolding digit
xor_digit a b t = ap (λ (x : ℕ). x % 2) (xor_shr a b t) ∙ xor_mod (a / 2 ^ t) (b / 2 ^ t) 1

pub has_lt : (w a t : ℕ) → a < 2 ^ w → Has a t → t < w
has_lt w a t h x = go (dec_le w t)
  where
    go : Dec (w ≤ t) → t < w
    go (yes l) = absurd (no_one a t x (high_zero w a t h l))
    go (no g) = omega arith
