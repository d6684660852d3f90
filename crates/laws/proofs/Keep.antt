-- Filters and tests of lists: what `keep`, `every`, `some`, `elem` and `bind` say of the elements.
--     mem-keep, mem_of_keep           into a filtered list, and out of it
--     every→, →every, any→, →any, elem→, →elem     a test of a list, as a statement about its elements
--     mem-bind, mem_of_bind           into the lists of `bind`, and out of them
--     every-and                       two tests at once, or one after the other
--     keep_ext, any_ext              equal tests
--     keep-keep, any-keep            a filter after a filter, and a test after it
--     keep_swap                       two filters, in either order
--     keep_append, keep-map           a filter of two lists one behind the other, and of images
--     empty-or, nil_of_none           a list has no element, or some; it has none
--     keep-none, keep_all             no element passes, or all do
--     length-keep-le                  a filter leaves no more elements than there are
-- Assumes nothing.
use mathlib.Core.Path.{◌≡◌, refl, sym, ap, ap₂, ◌∙◌, subst}
use mathlib.Core.Logic.{◌⊎◌, inl, inr, ◌≢◌}
use mathlib.Core.Bool.{Bool, true, false, ◌&&◌, ◌||◌, and_comm}
use mathlib.Core.List.Memᴰ
use mathlib.Core.List.{List, [], ◌∷◌, ◌++◌, map, cons-ne-nil}
use mathlib.Core.List.Memᴰ.{head as here}
use mathlib.Core.List.Memᴰ.{not-nil as mem-nil}
use mathlib.Core.List.Memᴰ.{tail as there}
use mathlib.Core.List.{Memᴰ as Mem}
use Prim.Native.Nat.{ℕ, suc, ◌≤◌, zero-le, suc-le-suc}
use native.Mathlib.Nat.{le-suc, le_trans}
use lib.Dec.{T, eqb, eqb→eq}
use lib.ListN.{length}
use Rattle.laws.specs.Lists.{keep_if, keep, every, any, elem, bind}
use Rattle.laws.proofs.Tests.{T_and, and_T, T-or, or_l, or_r, T_true, true_T, eq→eqb}

module _ {A : Type 0} where
  pub mem-keep : (p : A → Bool) (l : List A) {x : A} → Mem x l → T (p x) → Mem x (keep p l)
  mem-keep p [] {x = x} x4 t = elim x4 [ ]
  mem-keep p (y ∷ ys) {x} (here e) t = go (p y) (subst (λ (z : A). T (p z)) e t)
    where
      go : (b : Bool) → T b → Mem x (keep_if b y (keep p ys))
      go true h = here e
      go false h = absurd h
  mem-keep p (y ∷ ys) {x} (there m) t = go (p y) (mem-keep p ys m t)
    where
      go : (b : Bool) → Mem x (keep p ys) → Mem x (keep_if b y (keep p ys))
      go true h = there h
      go false h = h

  pub mem_of_keep : (p : A → Bool) (l : List A) {x : A} → Mem x (keep p l) → Mem x l × T (p x)
  mem_of_keep p [] m = absurd (mem-nil m)
  mem_of_keep p (y ∷ ys) {x} m = go (p y) refl m (λ k. mem_of_keep p ys k)
    where
      kept : p y ≡ true → Mem x (y ∷ keep p ys) → (Mem x (keep p ys) → Mem x ys × T (p x)) → Mem x (y ∷ ys) × T (p x)
      kept e (here q) r = (here q, subst (λ (z : A). T (p z)) (sym q) (true_T e))
      kept e (there k) r = let h = r k in (there h.0, h.1)

      go : (b : Bool) → p y ≡ b → Mem x (keep_if b y (keep p ys)) → (Mem x (keep p ys) → Mem x ys × T (p x)) → Mem x (y ∷ ys) × T (p x)
      go true e k r = kept e k r
      go false e k r = let h = r k in (there h.0, h.1)

  pub every→ : (p : A → Bool) (l : List A) → T (every p l) → (x : A) → Mem x l → T (p x)
  every→ p [] h x x4 = elim x4 [ ]
  every→ p (y ∷ ys) h x (here e) = subst (λ (z : A). T (p z)) (sym e) (T_and (p y) (every p ys) h).0
  every→ p (y ∷ ys) h x (there m) = every→ p ys (T_and (p y) (every p ys) h).1 x m

  pub →every : (p : A → Bool) (l : List A) → ((x : A) → Mem x l → T (p x)) → T (every p l)
  →every p [] f = tt
  →every p (y ∷ ys) f = and_T (p y) (every p ys) (f y (here refl)) (→every p ys (λ x m. f x (there m)))

  pub every-and : (p q : A → Bool) (l : List A) → every (λ (x : A). p x && q x) l ≡ (every p l && every q l)
  every-and p q [] = refl
  every-and p q (x ∷ xs) = ap (λ (r : Bool). (p x && q x) && r) (every-and p q xs) ∙ swap (p x) (q x) (every p xs) (every q xs)
    where
      swap : (a b c d : Bool) → ((a && b) && (c && d)) ≡ ((a && c) && (b && d))
      swap true true c d = refl
      swap true false true d = refl
      swap true false false d = refl
      swap false b c d = refl

  pub any→ : (p : A → Bool) (l : List A) → T (any p l) → (x : A) × Mem x l × T (p x)
  any→ p [] h = absurd h
  any→ p (y ∷ ys) h = go (T-or (p y) (any p ys) h) (λ k. any→ p ys k)
    where
      go : T (p y) ⊎ T (any p ys) → (T (any p ys) → (x : A) × Mem x ys × T (p x)) → (x : A) × Mem x (y ∷ ys) × T (p x)
      go (inl t) r = (y, here refl, t)
      go (inr k) r = let q = r k in (q.0, there q.1, q.2)

  pub →any : (p : A → Bool) (l : List A) {x : A} → Mem x l → T (p x) → T (any p l)
  →any p [] x4 t = elim x4 [ ]
  →any p (y ∷ ys) (here e) t = or_l (p y) (any p ys) (subst (λ (z : A). T (p z)) e t)
  →any p (y ∷ ys) (there m) t = or_r (p y) (any p ys) (→any p ys m t)

  pub keep_ext : (p q : A → Bool) (l : List A) → ((x : A) → Mem x l → p x ≡ q x) → keep p l ≡ keep q l
  keep_ext p q [] f = refl
  keep_ext p q (x ∷ xs) f = ap₂ (λ (b : Bool) (r : List A). keep_if b x r) (f x (here refl)) (keep_ext p q xs (λ y m. f y (there m)))

  pub any_ext : (p q : A → Bool) (l : List A) → ((x : A) → Mem x l → p x ≡ q x) → any p l ≡ any q l
  any_ext p q [] f = refl
  any_ext p q (x ∷ xs) f = ap₂ (λ (b r : Bool). b || r) (f x (here refl)) (any_ext p q xs (λ y m. f y (there m)))

  pub keep-keep : (p q : A → Bool) (l : List A) → keep p (keep q l) ≡ keep (λ (x : A). q x && p x) l
  keep-keep p q [] = refl
  keep-keep p q (x ∷ xs) = go (q x) (keep-keep p q xs)
    where
      both : List A
      both = keep (λ (y : A). q y && p y) xs

      go : (b : Bool) → keep p (keep q xs) ≡ both → keep p (keep_if b x (keep q xs)) ≡ keep_if (b && p x) x both
      go true e = ap (λ (r : List A). keep_if (p x) x r) e
      go false e = e

  pub any-keep : (p q : A → Bool) (l : List A) → any p (keep q l) ≡ any (λ (x : A). q x && p x) l
  any-keep p q [] = refl
  any-keep p q (x ∷ xs) = go (q x) (any-keep p q xs)
    where
      both : Bool
      both = any (λ (y : A). q y && p y) xs

      go : (b : Bool) → any p (keep q xs) ≡ both → any p (keep_if b x (keep q xs)) ≡ (b && p x || both)
      go true e = ap (λ (r : Bool). p x || r) e
      go false e = e

  pub keep_append : (p : A → Bool) (s t : List A) → keep p (s ++ t) ≡ keep p s ++ keep p t
  keep_append p [] t = refl
  keep_append p (x ∷ xs) t = go (p x) (keep_append p xs t)
    where
      go : (b : Bool) → keep p (xs ++ t) ≡ keep p xs ++ keep p t → keep_if b x (keep p (xs ++ t)) ≡ keep_if b x (keep p xs) ++ keep p t
      go true e = ap (λ (r : List A). x ∷ r) e
      go false e = e

  pub empty-or : (l : List A) → (l ≡ []) ⊎ (l ≢ [])
  empty-or [] = inl refl
  empty-or (x ∷ xs) = inr (cons-ne-nil x xs)

  pub nil_of_none : (l : List A) → ((x : A) → Mem x l → ⊥) → l ≡ []
  nil_of_none [] f = refl
  nil_of_none (x ∷ xs) f = absurd (f x (here refl))

  pub keep-none : (p : A → Bool) (l : List A) → ((x : A) → Mem x l → T (p x) → ⊥) → keep p l ≡ []
  keep-none p l f = nil_of_none (keep p l) (λ x m. let q = mem_of_keep p l m in f x q.0 q.1)

  pub keep_all : (p : A → Bool) (l : List A) → ((x : A) → Mem x l → T (p x)) → keep p l ≡ l
  keep_all p [] f = refl
  keep_all p (x ∷ xs) f =
      ap₂ (λ (b : Bool) (r : List A). keep_if b x r) (T_true (p x) (f x (here refl))) (keep_all p xs (λ y m. f y (there m)))

  pub keep_swap : (p q : A → Bool) (l : List A) → keep p (keep q l) ≡ keep q (keep p l)
  keep_swap p q l = keep-keep p q l ∙ keep_ext (λ x. q x && p x) (λ x. p x && q x) l (λ x m. and_comm (q x) (p x)) ∙ sym (keep-keep q p l)

  pub length-keep-le : (p : A → Bool) (l : List A) → length (keep p l) ≤ length l
  length-keep-le p [] = zero-le
  length-keep-le p (x ∷ xs) = go (p x) (length-keep-le p xs)
    where
      go : (b : Bool) → length (keep p xs) ≤ length xs → length (keep_if b x (keep p xs)) ≤ suc (length xs)
      go true h = suc-le-suc h
      go false h = le_trans h (le-suc (length xs))

module _ {A B : Type 0} where
  pub keep-map : (g : A → B) (p : B → Bool) (l : List A) → keep p (map g l) ≡ map g (keep (λ (x : A). p (g x)) l)
  keep-map g p [] = refl
  keep-map g p (x ∷ xs) = go (p (g x)) (keep-map g p xs)
    where
      kept : List A
      kept = keep (λ (y : A). p (g y)) xs

      go : (b : Bool) → keep p (map g xs) ≡ map g kept → keep_if b (g x) (keep p (map g xs)) ≡ map g (keep_if b x kept)
      go true e = ap (λ (r : List B). g x ∷ r) e
      go false e = e

  pub mem-bind : (f : A → List B) (l : List A) {x : A} {y : B} → Mem x l → Mem y (f x) → Mem y (bind f l)
  mem-bind f [] {x = x} {y = y} x4 k = elim x4 [ ]
  mem-bind f (z ∷ zs) {x} {y} (here e) k = Memᴰ.append_left (bind f zs) (subst (λ (a : A). Mem y (f a)) e k)
  mem-bind f (z ∷ zs) (there m) k = Memᴰ.append_right (f z) (mem-bind f zs m k)

  pub mem_of_bind : (f : A → List B) (l : List A) {y : B} → Mem y (bind f l) → (x : A) × Mem x l × Mem y (f x)
  mem_of_bind f [] m = absurd (mem-nil m)
  mem_of_bind f (z ∷ zs) {y} m = go (Memᴰ.append_cases (f z) m) (λ k. mem_of_bind f zs k)
    where
      go : Mem y (f z) ⊎ Mem y (bind f zs) → (Mem y (bind f zs) → (x : A) × Mem x zs × Mem y (f x)) → (x : A) × Mem x (z ∷ zs) × Mem y (f x)
      go (inl k) r = (z, here refl, k)
      go (inr k) r = let q = r k in (q.0, there q.1, q.2)

pub elem→ : (c : ℕ) (xs : List ℕ) → T (elem c xs) → Mem c xs
elem→ c xs h = let q = any→ (λ (x : ℕ). eqb c x) xs h in Memᴰ.cast (eqb→eq c q.0 q.2) q.1

pub →elem : (c : ℕ) (xs : List ℕ) → Mem c xs → T (elem c xs)
→elem c xs m = →any (λ (x : ℕ). eqb c x) xs m (eq→eqb c c refl)
