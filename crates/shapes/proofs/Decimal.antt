-- Numbers in decimal.
--     figures-low, figures_high     the two cases: below ten one figure, else the figures of a tenth and then the last
--     is_figure b             the byte is one of 0 to 9
--     decimal-figures        a number in decimal is figures
--     decimal-some           one at least: the first, and the others
--     decimal_inj            equal figures, equal numbers
--     decimal-one, decimal_two     one figure, or two
--     decimal_high           the figures of a tenth of the number and then the last
--     decimal-length-le      a number below a power of ten has no more figures than that
-- Assumes nothing.
use mathlib.Core.Path.{◌≡◌, refl, sym, ap, ◌∙◌}
use mathlib.Core.Bool.{Bool, true, ◌&&◌}
use mathlib.Core.List.{List, [], ◌∷◌, ◌++◌}
use Prim.Native.Nat.{ℕ, zero, suc, ◌+◌, ◌-◌, ◌*◌, ◌/◌, ◌%◌, ◌^◌, ◌≤◌, ◌<◌}
use native.Mathlib.Decide.{dec_le}
use native.Mathlib.Nat.{le_refl, pow-suc}
use native.Mathlib.Omega.{arith}
use lib.Dec.{T, leb, ltb, ltb→lt, lt→ltb, le→leb}
use lib.ListN.{length, length-append}
use Rattle.laws.specs.Lists.{every}
use Rattle.laws.proofs.Tests.{and_T, T_true, T_false}
use Rattle.laws.proofs.Split.{every_append}
use Rattle.shapes.specs.Decimal.{figure, figures, decimal}

-- ---- the two cases

pub figures-low : (k n : ℕ) → n < 10 → figures k n ≡ figure n ∷ []
unfolding figures
figures-low zero n h = refl
figures-low (suc k) n h = rw (T_true (ltb n 10) (lt→ltb n 10 h))

pub figures_high : (k n : ℕ) → 10 ≤ n → figures (suc k) n ≡ figures k (n / 10) ++ (figure (n % 10) ∷ [])
unfolding figures
figures_high k n h = rw (T_false (ltb n 10) (λ t. omega (arith, ltb→lt n 10 t)))

pub decimal-one : (n : ℕ) → n < 10 → decimal n ≡ figure n ∷ []
decimal-one n h = figures-low n n h

pub decimal_two : (n : ℕ) → 10 ≤ n → n < 100 → decimal n ≡ figure (n / 10) ∷ figure (n % 10) ∷ []
decimal_two zero h l = absurd (omega arith)
decimal_two (suc k) h l =
    let n = suc k in
    figures_high k n h ∙ ap (λ (s : List ℕ). s ++ (figure (n % 10) ∷ [])) (figures-low k (n / 10) (omega arith))

-- as many steps as the number says are enough
figures-enough : (j k n : ℕ) → n ≤ j → n ≤ k → figures j n ≡ figures k n
figures-enough zero k n h l = figures-low 0 n (omega arith) ∙ sym (figures-low k n (omega arith))
figures-enough (suc j) zero n h l = figures-low (suc j) n (omega arith) ∙ sym (figures-low 0 n (omega arith))
figures-enough (suc j) (suc k) n h l = go (dec_le 10 n) (λ t. figures-enough j k (n / 10) (omega arith) (omega arith))
  where
    go : Dec (10 ≤ n) → (10 ≤ n → figures j (n / 10) ≡ figures k (n / 10)) → figures (suc j) n ≡ figures (suc k) n
    go (yes t) ih = rw (figures_high j n t, figures_high k n t, ih t)
    go (no t) ih = figures-low (suc j) n (omega arith) ∙ sym (figures-low (suc k) n (omega arith))

pub decimal_high : (n : ℕ) → 10 ≤ n → decimal n ≡ decimal (n / 10) ++ (figure (n % 10) ∷ [])
decimal_high zero h = absurd (omega arith)
decimal_high (suc k) h =
    figures_high k (suc k) h
    ∙ rw (figures-enough k (suc k / 10) (suc k / 10) (omega arith) (le_refl (suc k / 10)))

-- ---- how many figures

figures-length-le : (j k n : ℕ) → n < 10 ^ suc k → length (figures j n) ≤ suc k
unfolding figures
figures-length-le zero k n h = omega arith
figures-length-le (suc j) zero n h = rw (figures-low (suc j) n h) (le_refl 1)
figures-length-le (suc j) (suc k) n h =
    go (dec_le 10 n) (figures-length-le j k (n / 10) (omega (arith, pow-suc 10 (suc k))))
  where
    go : Dec (10 ≤ n) → length (figures j (n / 10)) ≤ suc k → length (figures (suc j) n) ≤ suc (suc k)
    go (yes t) ih = rw (figures_high j n t, length-append (figures j (n / 10)) (figure (n % 10) ∷ [])) (omega arith)
    go (no t) ih = rw (figures-low (suc j) n (omega arith)) (omega arith)

pub decimal-length-le : (k n : ℕ) → n < 10 ^ suc k → length (decimal n) ≤ suc k
decimal-length-le k n h = figures-length-le n k n h

-- ---- a number, read back from its figures

abbrev value_on : ℕ → List ℕ → ℕ
value_on n [] = n
value_on n (b ∷ l) = value_on (n * 10 + (b - 48)) l

value_last : (n b : ℕ) (l : List ℕ) → value_on n (l ++ (b ∷ [])) ≡ value_on n l * 10 + (b - 48)
value_last n b [] = refl
value_last n b (x ∷ l) = value_last (n * 10 + (x - 48)) b l

figures_back : (k n : ℕ) → value_on 0 (figures k n) ≡ n
unfolding figures
figures_back zero n = omega arith
figures_back (suc k) n = go (dec_le 10 n) (figures_back k (n / 10))
  where
    go : Dec (10 ≤ n) → value_on 0 (figures k (n / 10)) ≡ n / 10 → value_on 0 (figures (suc k) n) ≡ n
    go (yes h) ih = ap (value_on 0) (figures_high k n h) ∙ value_last 0 (figure (n % 10)) (figures k (n / 10)) ∙ omega arith
    go (no h) ih = ap (value_on 0) (figures-low (suc k) n (omega arith)) ∙ omega arith

pub decimal_inj : (m n : ℕ) → decimal m ≡ decimal n → m ≡ n
decimal_inj m n e = sym (figures_back m m) ∙ ap (value_on 0) e ∙ figures_back n n

-- ---- the bytes

abbrev pub is_figure : ℕ → Bool
is_figure b = leb 48 b && leb b 57

figure_is : (d : ℕ) → d < 10 → T (is_figure (figure d))
figure_is d h = and_T (leb 48 (48 + d)) (leb (48 + d) 57) (le→leb 48 (48 + d) (omega arith)) (le→leb (48 + d) 57 (omega arith))

one-figure : (d : ℕ) → d < 10 → T (every is_figure (figure d ∷ []))
one-figure d h = and_T (is_figure (figure d)) true (figure_is d h) tt

figures_are : (k n : ℕ) → n ≤ k → T (every is_figure (figures k n))
figures_are zero n h = rw (figures-low 0 n (omega arith)) (one-figure n (omega arith))
figures_are (suc k) n h = go (dec_le 10 n) (λ l. figures_are k (n / 10) (omega arith))
  where
    go : Dec (10 ≤ n) → (10 ≤ n → T (every is_figure (figures k (n / 10)))) → T (every is_figure (figures (suc k) n))
    go (yes l) ih =
        rw (figures_high k n l)
        (every_append is_figure (figures k (n / 10)) (figure (n % 10) ∷ []) (ih l) (one-figure (n % 10) (omega arith)))
    go (no l) ih = rw (figures-low (suc k) n (omega arith)) (one-figure n (omega arith))

pub decimal-figures : (n : ℕ) → T (every is_figure (decimal n))
decimal-figures n = figures_are n n (le_refl n)

figures-some : (k n : ℕ) → (b : ℕ) × (l : List ℕ) × (figures k n ≡ b ∷ l)
unfolding figures
figures-some zero n = (figure n, [], refl)
figures-some (suc k) n = go (dec_le 10 n) (figures-some k (n / 10))
  where
    go : Dec (10 ≤ n) → (b : ℕ) × (l : List ℕ) × (figures k (n / 10) ≡ b ∷ l) → (b : ℕ) × (l : List ℕ) × (figures (suc k) n ≡ b ∷ l)
    go (yes h) q = (q.0, q.1 ++ (figure (n % 10) ∷ []), figures_high k n h ∙ ap (λ (l : List ℕ). l ++ (figure (n % 10) ∷ [])) q.2)
    go (no h) q = (figure n, [], figures-low (suc k) n (omega arith))

pub decimal-some : (n : ℕ) → (b : ℕ) × (l : List ℕ) × (decimal n ≡ b ∷ l)
decimal-some n = figures-some n n
