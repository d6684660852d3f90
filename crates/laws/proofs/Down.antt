-- What stands in ascending places, the largest first: `down_to` of `specs/Orders.antt`.
--     down_length, down_ext, down_at, down_map     how many; functions that agree below n, both ways; a function of each
--     mem_down, down_mem         what stands there is what the places have
--     elem_down_iff              a number is one of them, as a test
--     falling_down, down_falling     the list falls exactly where later places have more
--     every→down, down→every     what holds of all is what holds at each place
--     down_passed, down_stopped     one step of a loop over the places from the last down, and its stop
-- Assumes nothing.
use mathlib.Core.Path.{◌≡◌, refl, sym, ap, ap₂, ◌∙◌, subst}
use mathlib.Core.Logic.{◌↔◌}
use mathlib.Core.Bool.{Bool, true, false}
use mathlib.Core.List.{List, ◌∷◌, map, head-eq_of_cons-eq, tail-eq_of_cons-eq}
use mathlib.Core.List.Memᴰ.{head as here}
use mathlib.Core.List.Memᴰ.{not-nil as mem-nil}
use mathlib.Core.List.Memᴰ.{tail as there}
use mathlib.Core.List.{Memᴰ as Mem}
use Prim.Native.Nat.{ℕ, zero, suc, ◌-◌, ◌≤◌, ◌<◌}
use native.Mathlib.Decide.{dec_le, ℕ_discrete}
use native.Mathlib.Omega.{arith}
use lib.Dec.{T}
use lib.ListN.{length}
use Rattle.laws.specs.Lists.{every, elem}
use Rattle.laws.specs.Orders.{Falling, down_to}
use Rattle.laws.proofs.Keep.{elem→, →elem}
use Rattle.laws.proofs.Tests.{T_and, and_T}

module _ {A : Type 0} where
  pub down_length : (f : ℕ → A) (n : ℕ) → length (down_to f n) ≡ n
  down_length f zero = refl
  down_length f (suc n) = ap suc (down_length f n)

  pub down_ext : (f g : ℕ → A) (n : ℕ) → ((j : ℕ) → j < n → f j ≡ g j) → down_to f n ≡ down_to g n
  down_ext f g zero h = refl
  down_ext f g (suc n) h = ap₂ (λ (x : A) (xs : List A). x ∷ xs) (h n (omega arith)) (down_ext f g n (λ j k. h j (omega arith)))

  pub down_at : (f g : ℕ → A) (n : ℕ) → down_to f n ≡ down_to g n → (i : ℕ) → i < n → f i ≡ g i
  down_at f g zero e i l = absurd (omega arith)
  down_at f g (suc n) e i l = go (ℕ_discrete i n) (down_at f g n (tail-eq_of_cons-eq e) i)
    where
      go : Dec (i ≡ n) → (i < n → f i ≡ g i) → f i ≡ g i
      go (yes q) ih = ap f q ∙ head-eq_of_cons-eq e ∙ ap g (sym q)
      go (no q) ih = ih (omega (arith, q))

  pub down_map : {B : Type 0} (g : A → B) (f : ℕ → A) (n : ℕ) → map g (down_to f n) ≡ down_to (λ (i : ℕ). g (f i)) n
  down_map g f zero = refl
  down_map {B} g f (suc n) = ap (λ (xs : List B). g (f n) ∷ xs) (down_map g f n)

  pub mem_down : (f : ℕ → A) (n : ℕ) (x : A) → Mem x (down_to f n) → (j : ℕ) × (j < n) × (x ≡ f j)
  mem_down f zero x m = absurd (mem-nil m)
  mem_down f (suc n) x (here e) = (n, omega arith, e)
  mem_down f (suc n) x (there m) = let q = mem_down f n x m in (q.0, omega (arith, q.1), q.2)

  pub down_mem : (f : ℕ → A) (n j : ℕ) → j < n → Mem (f j) (down_to f n)
  down_mem f zero j h = absurd (omega arith)
  down_mem f (suc n) j h = go (dec_le n j) (down_mem f n j)
    where
      go : Dec (n ≤ j) → (j < n → Mem (f j) (down_to f n)) → Mem (f j) (down_to f (suc n))
      go (yes k) ih = here (let e : j ≡ n = omega arith in ap f e)
      go (no k) ih = there (ih (omega arith))

  pub every→down : (p : A → Bool) (f : ℕ → A) (n : ℕ) → T (every p (down_to f n)) → (j : ℕ) → j < n → T (p (f j))
  every→down p f zero h j k = absurd (omega arith)
  every→down p f (suc n) h j k = go (dec_le n j) (every→down p f n q.1 j)
    where
      q : T (p (f n)) × T (every p (down_to f n))
      q = T_and (p (f n)) (every p (down_to f n)) h

      go : Dec (n ≤ j) → (j < n → T (p (f j))) → T (p (f j))
      go (yes l) ih = let e : n ≡ j = omega arith in subst (λ (i : ℕ). T (p (f i))) e q.0
      go (no l) ih = ih (omega arith)

  pub down→every : (p : A → Bool) (f : ℕ → A) (n : ℕ) → ((j : ℕ) → j < n → T (p (f j))) → T (every p (down_to f n))
  down→every p f zero h = tt
  down→every p f (suc n) h = and_T (p (f n)) (every p (down_to f n)) (h n (omega arith)) (down→every p f n (λ j k. h j (omega arith)))

  module _ (p : A → Bool) (f : ℕ → A) where
    pub down_passed : (n : ℕ) → 0 < n → p (f (n - 1)) ≡ true → every p (down_to f n) ≡ every p (down_to f (n - 1))
    down_passed zero h e = absurd (omega arith)
    down_passed (suc n) h e = let a : suc n - 1 ≡ n = omega arith in rw (a, rw a at e)

    pub down_stopped : (n : ℕ) → 0 < n → p (f (n - 1)) ≡ false → every p (down_to f n) ≡ false
    down_stopped zero h e = absurd (omega arith)
    down_stopped (suc n) h e = let a : suc n - 1 ≡ n = omega arith in rw (rw a at e)

pub elem_down_iff : (f : ℕ → ℕ) (n c : ℕ) → T (elem c (down_to f n)) ↔ ((j : ℕ) × (j < n) × (c ≡ f j))
elem_down_iff f n c = (
  λ t. mem_down f n c (elem→ c (down_to f n) t),
  λ q. →elem c (down_to f n) (subst (λ (x : ℕ). Mem x (down_to f n)) (sym q.2) (down_mem f n q.0 q.1)),
)

-- later places have more
pub falling_down : (f : ℕ → ℕ) (n : ℕ) → Falling (down_to f n) → (j k : ℕ) → j < k → k < n → f j < f k
falling_down f zero h j k a b = absurd (omega arith)
falling_down f (suc n) h j k a b = go (dec_le n k) (falling_down f n h.1 j k a)
  where
    go : Dec (n ≤ k) → (k < n → f j < f k) → f j < f k
    go (yes d) ih = let e : n ≡ k = omega arith in subst (λ (m : ℕ). f j < f m) e (h.0 (f j) (down_mem f n j (omega arith)))
    go (no d) ih = ih (omega arith)

pub down_falling : (f : ℕ → ℕ) (n : ℕ) → ((j k : ℕ) → j < k → k < n → f j < f k) → Falling (down_to f n)
down_falling f zero h = tt
down_falling f (suc n) h = (below, down_falling f n (λ j k a b. h j k a (omega arith)))
  where
    below : (y : ℕ) → Mem y (down_to f n) → y < f n
    below y m = let q = mem_down f n y m in subst (λ (x : ℕ). x < f n) (sym q.2) (h q.0 n q.1 (omega arith))
