-- How many elements a filter keeps.
--     length-keep_split     as many as pass a second test, and as many as don't
--     length-keep-and-le    with a second test, no more than that test alone
--     length-keep-lt        fewer than there are, where one doesn't pass
-- Assumes nothing.
use mathlib.Core.Path.{◌≡◌, refl, sym, ap, ◌∙◌}
use mathlib.Core.Bool.{Bool, true, false, not, ◌&&◌}
use mathlib.Core.List.{List, [], ◌∷◌}
use mathlib.Core.List.Memᴰ.{head as here}
use mathlib.Core.List.Memᴰ.{tail as there}
use mathlib.Core.List.{Memᴰ as Mem}
use Prim.Native.Nat.{suc, ◌+◌, ◌≤◌, ◌<◌}
use native.Mathlib.Omega.{arith}
use lib.Dec.{T}
use lib.ListN.{length}
use Rattle.laws.specs.Lists.{keep_if, keep}
use Rattle.laws.proofs.Tests.{T_false}
use Rattle.laws.proofs.Keep.{keep-keep, keep_swap, length-keep-le}

module _ {A : Type 0} where
  pub length-keep_split : (p q : A → Bool) (l : List A)
      → length (keep p l) ≡ length (keep (λ (x : A). p x && q x) l) + length (keep (λ (x : A). p x && not (q x)) l)
  length-keep_split p q [] = refl
  length-keep_split p q (x ∷ xs) = go (p x) (q x) (length-keep_split p q xs)
    where
      ys : List A
      ys = keep (λ (x : A). p x && q x) xs

      zs : List A
      zs = keep (λ (x : A). p x && not (q x)) xs

      go : (a b : Bool) → length (keep p xs) ≡ length ys + length zs
          → length (keep_if a x (keep p xs)) ≡ length (keep_if (a && b) x ys) + length (keep_if (a && not b) x zs)
      go true true e = omega arith
      go true false e = omega arith
      go false b e = e

  pub length-keep-and-le : (p q : A → Bool) (l : List A) → length (keep (λ (x : A). p x && q x) l) ≤ length (keep q l)
  length-keep-and-le p q l = omega (arith, ap length (sym (keep-keep q p l) ∙ keep_swap q p l), length-keep-le p (keep q l))

  pub length-keep-lt : (q : A → Bool) (l : List A) (x : A) → Mem x l → (T (q x) → ⊥) → length (keep q l) < length l
  length-keep-lt q [] x x4 n = elim x4 [ ]
  length-keep-lt q (y ∷ ys) x (here e) n = rw (T_false (q y) (λ h. n (rw e h))) (omega (arith, length-keep-le q ys))
  length-keep-lt q (y ∷ ys) x (there m) n = go (q y) (length-keep-lt q ys x m n)
    where
      go : (b : Bool) → length (keep q ys) < length ys → length (keep_if b y (keep q ys)) < suc (length ys)
      go true h = omega arith
      go false h = omega arith
