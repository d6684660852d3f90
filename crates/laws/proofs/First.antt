-- The first place that passes a test, `first_from` of `specs/Orders.antt`.
--     first_passed, first_stopped, first_ended     one step of a loop over the places, and its two ends
--     first-low, first_high     where it lies
--     first-before, first_at    no place before it passes, and it passes itself where it is one of the places
--     first_of, first-all       the place that passes and has none before it that does; where none passes
--     found_iff, unfound_iff    of the places below n one passes first, or none passes
-- Assumes nothing.
use mathlib.Core.Path.{◌≡◌, refl, ◌∙◌}
use mathlib.Core.Logic.{◌↔◌}
use mathlib.Core.Bool.{Bool, true, false, cond}
use Prim.Native.Nat.{ℕ, zero, suc, ◌+◌, ◌-◌, ◌≤◌, ◌<◌}
use native.Mathlib.Decide.{dec_le}
use native.Mathlib.Numerals.{add-one}
use native.Mathlib.Omega.{arith}
use lib.Dec.{T, ltb, ltb→lt, lt→ltb}
use Rattle.laws.specs.Orders.{first_from}

module _ (p : ℕ → Bool) where
  -- ---- a loop over the places below n
  first_step : (i n : ℕ) → i < n → first_from p i (n - i) ≡ cond (p i) i (first_from p (i + 1) (n - (i + 1)))
  first_step i n h = let e : n - i ≡ suc (n - (i + 1)) = omega arith in rw (e, add-one i)

  pub first_passed : (i n : ℕ) → i < n → p i ≡ false → first_from p i (n - i) ≡ first_from p (i + 1) (n - (i + 1))
  first_passed i n h e = first_step i n h ∙ rw e

  pub first_stopped : (i n : ℕ) → i < n → p i ≡ true → first_from p i (n - i) ≡ i
  first_stopped i n h e = first_step i n h ∙ rw e

  pub first_ended : (i n : ℕ) → i ≤ n → n ≤ i → first_from p i (n - i) ≡ n
  first_ended i n h k = let e : n - i ≡ 0 = omega arith in let q : i ≡ n = omega arith in rw (e, q)

  -- ---- where it lies
  pub first-low : (i k : ℕ) → i ≤ first_from p i k
  first-low i zero = omega arith
  first-low i (suc k) = go (p i) (first-low (suc i) k)
    where
      go : (b : Bool) → suc i ≤ first_from p (suc i) k → i ≤ cond b i (first_from p (suc i) k)
      go true h = omega arith
      go false h = omega arith

  pub first_high : (i k : ℕ) → first_from p i k ≤ i + k
  first_high i zero = omega arith
  first_high i (suc k) = go (p i) (first_high (suc i) k)
    where
      go : (b : Bool) → first_from p (suc i) k ≤ suc i + k → cond b i (first_from p (suc i) k) ≤ i + suc k
      go true h = omega arith
      go false h = omega arith

  -- ---- what it is
  pub first-before : (i k j : ℕ) → i ≤ j → j < first_from p i k → p j ≡ false
  first-before i zero j l h = absurd (omega arith)
  first-before i (suc k) j l h = go (p i) refl h (dec_le j i) (first-before (suc i) k j)
    where
      go : (b : Bool) → p i ≡ b → j < cond b i (first_from p (suc i) k) → Dec (j ≤ i)
          → (suc i ≤ j → j < first_from p (suc i) k → p j ≡ false) → p j ≡ false
      go true e g d ih = absurd (omega arith)
      go false e g (yes d) ih = let q : j ≡ i = omega arith in rw q e
      go false e g (no d) ih = ih (omega arith) g

  pub first_at : (i k : ℕ) → first_from p i k < i + k → p (first_from p i k) ≡ true
  first_at i zero h = absurd (omega arith)
  first_at i (suc k) h = go (p i) refl h (first_at (suc i) k)
    where
      go : (b : Bool) → p i ≡ b → cond b i (first_from p (suc i) k) < i + suc k
          → (first_from p (suc i) k < suc i + k → p (first_from p (suc i) k) ≡ true) → p (cond b i (first_from p (suc i) k)) ≡ true
      go true e g ih = e
      go false e g ih = ih (omega arith)

  pub first_of : (i k j : ℕ) → i ≤ j → j < i + k → p j ≡ true → ((m : ℕ) → i ≤ m → m < j → p m ≡ false) → first_from p i k ≡ j
  first_of i zero j l h t f = absurd (omega arith)
  first_of i (suc k) j l h t f = go (dec_le j i) (first_of (suc i) k j)
    where
      go : Dec (j ≤ i) → (suc i ≤ j → j < suc i + k → p j ≡ true → ((m : ℕ) → suc i ≤ m → m < j → p m ≡ false) → first_from p (suc i) k ≡ j)
          → cond (p i) i (first_from p (suc i) k) ≡ j
      go (yes d) ih = let q : i ≡ j = omega arith in rw (q, t)
      go (no d) ih = rw (f i (omega arith) (omega arith)) (ih (omega arith) (omega arith) t (λ m a b. f m (omega arith) b))

  pub first-all : (i k : ℕ) → ((j : ℕ) → i ≤ j → j < i + k → p j ≡ false) → first_from p i k ≡ i + k
  first-all i zero f = omega arith
  first-all i (suc k) f =
      let e : suc i + k ≡ i + suc k = omega arith in
      rw (f i (omega arith) (omega arith)) (first-all (suc i) k (λ j a b. f j (omega arith) (omega arith)) ∙ e)

-- ---- the places below n
module _ (p : ℕ → Bool) (n : ℕ) where
  pub found_iff : (i : ℕ)
      → (T (ltb (first_from p 0 n) n) × (first_from p 0 n ≡ i)) ↔ ((i < n) × (p i ≡ true) × ((j : ℕ) → j < i → p j ≡ false))
  found_iff i = (to, from)
    where
      to : T (ltb (first_from p 0 n) n) × (first_from p 0 n ≡ i) → (i < n) × (p i ≡ true) × ((j : ℕ) → j < i → p j ≡ false)
      to k =
          let h = ltb→lt (first_from p 0 n) n k.0 in (
            omega (arith, h, k.1),
            rw k.1 at (first_at p 0 n (omega (arith, h))),
            λ j a. first-before p 0 n j (omega arith) (omega (arith, k.1)),
          )

      from : (i < n) × (p i ≡ true) × ((j : ℕ) → j < i → p j ≡ false) → T (ltb (first_from p 0 n) n) × (first_from p 0 n ≡ i)
      from k =
          let e = first_of p 0 n i (omega arith) (omega (arith, k.0)) k.1 (λ j _ b. k.2 j b) in
          (lt→ltb (first_from p 0 n) n (omega (arith, e, k.0)), e)

  pub unfound_iff : (T (ltb (first_from p 0 n) n) → ⊥) ↔ ((j : ℕ) → j < n → p j ≡ false)
  unfound_iff = (to (dec_le n (first_from p 0 n)), from)
    where
      to : Dec (n ≤ first_from p 0 n) → (T (ltb (first_from p 0 n) n) → ⊥) → (j : ℕ) → j < n → p j ≡ false
      to (yes h) k j a = first-before p 0 n j (omega arith) (omega arith)
      to (no h) k j a = absurd (k (lt→ltb (first_from p 0 n) n (omega arith)))

      from : ((j : ℕ) → j < n → p j ≡ false) → T (ltb (first_from p 0 n) n) → ⊥
      from k t = omega (arith, first-all p 0 n (λ j a b. k j (omega arith)), ltb→lt (first_from p 0 n) n t)
