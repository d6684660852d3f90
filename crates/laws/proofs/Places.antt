-- Lists by their places: tests at each place, the places that pass a test, and numbers that no two places share.
--     every→at, at→every      a test that all pass, at each place, and back
--     places-once, places_iff     the places below n that pass a test, each once
--     once→apart, apart→once      no number stands twice where none is that of an earlier place, and back
-- Assumes nothing.
use mathlib.Core.Path.{◌≡◌, sym, ap, ◌∙◌, subst}
use mathlib.Core.Logic.{◌↔◌}
use mathlib.Core.Bool.{Bool}
use mathlib.Core.List.{List, [], ◌∷◌, Memᴰ as Mem}
use Prim.Native.Nat.{ℕ, zero, suc, ◌<◌}
use native.Mathlib.Decide.{dec_lt}
use native.Mathlib.Omega.{arith}
use lib.Dec.{T}
use lib.ListN.{length, get_or}
use Rattle.laws.specs.Lists.{keep, every, Once}
use Rattle.laws.specs.Orders.{down_to, places}
use Rattle.laws.proofs.Down.{mem_down, down_mem, down_falling}
use Rattle.laws.proofs.Falling.{falling_once}
use Rattle.laws.proofs.Keep.{mem-keep, mem_of_keep}
use Rattle.laws.proofs.Once.{once-keep}
use Rattle.laws.proofs.Tests.{T_and, and_T}

-- ---- a test at each place

pub every→at : (p : ℕ → Bool) (l : List ℕ) → T (every p l) → (j : ℕ) → j < length l → T (p (get_or l j 0))
every→at p [] h j k = absurd (omega arith)
every→at p (b ∷ l) h zero k = (T_and (p b) (every p l) h).0
every→at p (b ∷ l) h (suc j) k = every→at p l (T_and (p b) (every p l) h).1 j (omega arith)

pub at→every : (p : ℕ → Bool) (l : List ℕ) → ((j : ℕ) → j < length l → T (p (get_or l j 0))) → T (every p l)
at→every p [] f = tt
at→every p (b ∷ l) f = and_T (p b) (every p l) (f 0 (omega arith)) (at→every p l (λ j k. f (suc j) (omega arith)))

-- ---- the places below n that pass a test

module _ (p : ℕ → Bool) (n : ℕ) where
  pub places-once : Once (keep p (places n))
  places-once = once-keep p (places n) (falling_once (places n) (down_falling (λ (i : ℕ). i) n (λ j k h _. h)))

  pub places_iff : (j : ℕ) → Mem j (keep p (places n)) ↔ ((j < n) × T (p j))
  places_iff j = (
    λ m.
        let q = mem_of_keep p (places n) m in
        let k = mem_down (λ (i : ℕ). i) n j q.0 in
        (subst (λ (x : ℕ). x < n) (sym k.2) k.1, q.1),
    λ q. mem-keep p (places n) (down_mem (λ (i : ℕ). i) n j q.0) q.1,
  )

-- ---- numbers that no two places share

module _ (f : ℕ → ℕ) where
  pub once→apart : (n : ℕ) → Once (down_to f n) → (i : ℕ) → i < n → ((j : ℕ) × (j < i) × (f i ≡ f j)) → ⊥
  once→apart zero o i h q = omega arith
  once→apart (suc n) o i h q = go (dec_lt i n) (λ k. once→apart n o.1 i k q)
    where
      go : Dec (i < n) → (i < n → ⊥) → ⊥
      go (yes k) ih = ih k
      go (no k) ih =
          let e : n ≡ i = omega arith in
          o.0 (subst (λ (c : ℕ). Mem c (down_to f n)) (sym (ap f e ∙ q.2)) (down_mem f n q.0 (omega (arith, q.1))))

  pub apart→once : (n : ℕ) → ((i : ℕ) → i < n → ((j : ℕ) × (j < i) × (f i ≡ f j)) → ⊥) → Once (down_to f n)
  apart→once zero h = tt
  apart→once (suc n) h = (λ m. h n (omega arith) (mem_down f n (f n) m), apart→once n (λ i k. h i (omega arith)))
