-- The largest number of a list that passes a test.
--     Largest p L       such a number, and that no other that passes is larger
--     Top, none, at     there is no such number, or it is this one
--     top               one of the two holds
--     largest_of        there is one where some number of the list passes
-- Assumes nothing.
use mathlib.Core.Path.{sym, refl, subst}
use mathlib.Core.Logic.{◌⊎◌, inl, inr}
use mathlib.Core.Bool.{Bool}
use mathlib.Core.List.{List, [], ◌∷◌}
use mathlib.Core.List.Memᴰ.{head as here}
use mathlib.Core.List.Memᴰ.{not-nil as mem-nil}
use mathlib.Core.List.Memᴰ.{tail as there}
use mathlib.Core.List.{Memᴰ as Mem}
use Prim.Native.Nat.{ℕ, ◌≤◌}
use native.Mathlib.Decide.{dec_le}
use native.Mathlib.Nat.{le_refl}
use native.Mathlib.Omega.{arith}
use lib.Dec.{T}
use Rattle.laws.proofs.Tests.{T-dec}

module _ (p : ℕ → Bool) where
  pub record Largest (L : List ℕ) : Type 0 where
    pub number : ℕ
    pub listed : Mem number L
    pub passes : T (p number)
    pub most : (x : ℕ) → Mem x L → T (p x) → x ≤ number

  pub data Top (L : List ℕ) : Type 0 where
    none : ((x : ℕ) → Mem x L → T (p x) → ⊥) → Top L
    at : Largest L → Top L

  all_cons : (P : ℕ → Type 0) (y : ℕ) (ys : List ℕ) → P y → ((x : ℕ) → Mem x ys → P x) → (x : ℕ) → Mem x (y ∷ ys) → P x
  all_cons P y ys h f x (here e) = subst P (sym e) h
  all_cons P y ys h f x (there m) = f x m

  abbrev Under : ℕ → ℕ → Type 0
  Under k x = T (p x) → x ≤ k

  -- one number more: the largest so far stays, or the new one is
  stays : (y : ℕ) (ys : List ℕ) (q : Largest ys) → (T (p y) → y ≤ q.number) → Largest (y ∷ ys)
  stays y ys q h = record {
    number = q.number;
    listed = there q.listed;
    passes = q.passes;
    most = all_cons (Under q.number) y ys h q.most;
  }

  first : (y : ℕ) (ys : List ℕ) → T (p y) → ((x : ℕ) → Mem x ys → Under y x) → Largest (y ∷ ys)
  first y ys t f = record { number = y; listed = here refl; passes = t; most = all_cons (Under y) y ys (λ _. le_refl y) f }

  pub top : (L : List ℕ) → Top L
  top [] = none (λ x m. absurd (mem-nil m))
  top (y ∷ ys) = go (T-dec (p y)) (top ys)
    where
      pick : T (p y) → (q : Largest ys) → Dec (y ≤ q.number) → Largest (y ∷ ys)
      pick t q (yes l) = stays y ys q (λ _. l)
      pick t q (no n) = first y ys t (λ x m h. omega (arith, q.most x m h))

      go : T (p y) ⊎ (T (p y) → ⊥) → Top ys → Top (y ∷ ys)
      go (inl t) (none f) = at (first y ys t (λ x m h. absurd (f x m h)))
      go (inl t) (at q) = at (pick t q (dec_le y q.number))
      go (inr n) (none f) = none (all_cons (λ (x : ℕ). T (p x) → ⊥) y ys n f)
      go (inr n) (at q) = at (stays y ys q (λ t. absurd (n t)))

  pub largest_of : (L : List ℕ) (c : ℕ) → Mem c L → T (p c) → Largest L
  largest_of L c m t = go (top L)
    where
      go : Top L → Largest L
      go (none f) = absurd (f c m t)
      go (at q) = q
