-- Inside and apart, taxon by taxon: what the two tests of clusters say of the digits. `Cluster.antt` passes these on.
--     inside→, →inside, apart→, →apart       out of the test and into it
--     inside_of_has, has_of_inside           one taxon inside, as a digit
-- Assumes nothing.
use mathlib.Core.Path.{sym, subst}
use Prim.Native.Nat.{ℕ, ◌^◌}
use lib.Bits.{bit_and}
use lib.Dec.{T, eqb→eq}
use Rattle.laws.specs.Cluster.{inside, apart}
use Rattle.laws.proofs.Tests.{eq→eqb}
use Rattle.laws.proofs.Digits.{Has, has_ext, has_and, and_has, not_has_zero, has_pow, pow_has}

pub inside→ : (a b : ℕ) → T (inside a b) → (t : ℕ) → Has a t → Has b t
unfolding inside
inside→ a b h t x = (and_has a b t (subst (λ (n : ℕ). Has n t) (sym (eqb→eq (bit_and a b) a h)) x)).1

pub →inside : (a b : ℕ) → ((t : ℕ) → Has a t → Has b t) → T (inside a b)
unfolding inside
→inside a b f = eq→eqb _ _ (has_ext (bit_and a b) a (λ t x. (and_has a b t x).0) (λ t x. has_and a b t x (f t x)))

pub apart→ : (a b : ℕ) → T (apart a b) → (t : ℕ) → Has a t → Has b t → ⊥
unfolding apart
apart→ a b h t x y = not_has_zero t (subst (λ (n : ℕ). Has n t) (eqb→eq (bit_and a b) 0 h) (has_and a b t x y))

pub →apart : (a b : ℕ) → ((t : ℕ) → Has a t → Has b t → ⊥) → T (apart a b)
unfolding apart
→apart a b f = eq→eqb _ _ (has_ext (bit_and a b) 0 none (λ t x. absurd (not_has_zero t x)))
  where
    none : (t : ℕ) → Has (bit_and a b) t → Has 0 t
    none t x = let q = and_has a b t x in absurd (f t q.0 q.1)

pub inside_of_has : (t c : ℕ) → Has c t → T (inside (2 ^ t) c)
inside_of_has t c h = →inside (2 ^ t) c (λ s k. subst (Has c) (sym (pow_has t s k)) h)

pub has_of_inside : (t c : ℕ) → T (inside (2 ^ t) c) → Has c t
has_of_inside t c h = inside→ (2 ^ t) c h t (has_pow t)
