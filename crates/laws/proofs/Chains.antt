-- What a chain of iterators answers, in this crate's words for lists.
--     every_of, any_of     `all` answers whether all pass a test, and `any` whether one does
--     elem_is              `contains` answers whether a number is in the list
--     keep_is              `filter` gives what `keep` does
--     fold-every           a `fold` that tests all, whatever is found
-- Assumes nothing.
use mathlib.Core.Path.{◌≡◌, refl, sym, ap₂, ◌∙◌}
use mathlib.Core.Bool.{Bool, true, false, cond, ◌&&◌, ◌||◌, and-true}
use mathlib.Core.List.{List, [], ◌∷◌}
use Prim.Native.Nat.{ℕ, ◌<◌}
use native.Mathlib.Omega.{arith}
use lib.Dec.{eqb}
use lib.ListN.{length, get_or}
use Rattle.std.specs.List.{filter, fold, list_any}
use Rattle.std.proofs.lemmas.List.Recursion.{and_is, or_is, same_from_clauses}
use Rattle.std.proofs.lemmas.Bool.Decides.{nat_tests}
use Rattle.laws.specs.Lists.{keep_if, keep, every, any, elem}

module _ (p : ℕ → Bool) (l : List ℕ) (r : Bool) where
  pub every_of : (r ≡ true → (i : ℕ) → i < length l → p (get_or l i 0) ≡ true)
      → (r ≡ false → (i : ℕ) × (i < length l) × (p (get_or l i 0) ≡ false)) → r ≡ every p l
  every_of f g = and_is (every p) p refl (λ _ _. refl) l 0 r f g

  pub any_of : (r ≡ true → (i : ℕ) × (i < length l) × (p (get_or l i 0) ≡ true))
      → (r ≡ false → (i : ℕ) → i < length l → p (get_or l i 0) ≡ false) → r ≡ any p l
  any_of f g = or_is (any p) p refl (λ _ _. refl) l 0 r f g

eqb_swap : (a b : ℕ) → eqb a b ≡ eqb b a
eqb_swap a b = grind (arith, nat_tests)

pub elem_is : (n : ℕ) (l : List ℕ) → list_any (λ (x : ℕ). eqb x n) l ≡ elem n l
elem_is n [] = refl
elem_is n (x ∷ xs) = ap₂ (λ (a b : Bool). a || b) (eqb_swap x n) (elem_is n xs)

pub keep_is : {A : Type 0} (p : A → Bool) (l : List A) → keep p l ≡ filter p l
keep_is p = same_from_clauses (keep p) (filter p) (λ x xs. cond (p x) (x ∷ xs) xs) refl (λ x xs. kept (p x) x (keep p xs)) (λ x xs. refl)
  where
    kept : {A : Type 0} (b : Bool) (x : A) (xs : List A) → keep_if b x xs ≡ cond b (x ∷ xs) xs
    kept true x xs = refl
    kept false x xs = refl

and_assoc : (a b c : Bool) → (a && b && c) ≡ (a && (b && c))
and_assoc true b c = refl
and_assoc false b c = refl

pub fold-every : (p : ℕ → Bool) (a : Bool) (x : List ℕ) → fold (λ whole b. whole && p b) a x ≡ (a && every p x)
fold-every p a [] = sym (and-true a)
fold-every p a (b ∷ x) = fold-every p (a && p b) x ∙ and_assoc a (p b) (every p x)
