-- Lists of images, lists one behind another, and a list backward.
--     map-through                    images of images, as images
--     bind-append                    the lists of `bind`, of two lists one behind the other
--     map-reverse                    the images of a list backward
--     mem-reverse, mem_of_reverse    it has the same elements
--     once-reverse                   and none of them twice where the list has none twice
--     every-reverse, any-reverse, keep-reverse     the same tests pass, and a filter leaves the same backward
-- Assumes nothing.
use mathlib.Core.Path.{◌≡◌, refl, sym, ap, ◌∙◌, subst, fun_ext}
use mathlib.Core.Bool.{Bool, true, false}
use mathlib.Core.List.{List, [], ◌∷◌, ◌++◌, map, map-map, append_assoc, append-nil, reverse, reverse_aux, reverse-cons, reverse-reverse}
use mathlib.Core.List.Memᴰ.{head as here}
use mathlib.Core.List.Memᴰ.{not-nil as mem-nil}
use mathlib.Core.List.Memᴰ.{tail as there}
use mathlib.Core.List.{Memᴰ as Mem}
use lib.Dec.{T}
use Rattle.laws.specs.Lists.{keep_if, keep, every, any, bind, Once}
use Rattle.laws.proofs.Tests.{bool_ext}
use Rattle.laws.proofs.Keep.{every→, →every, any→, →any, keep_append}
use Rattle.laws.proofs.Once.{once-append}

module _ {A B C : Type 0} where
  pub map-through : (g : A → B) (f : B → C) (h : A → C) → ((x : A) → f (g x) ≡ h x) → (l : List A) → map f (map g l) ≡ map h l
  map-through g f h e l = map-map f g l ∙ ap (λ (k : A → C). map k l) (fun_ext e)

module _ {A B : Type 0} (f : A → List B) where
  pub bind-append : (s t : List A) → bind f (s ++ t) ≡ bind f s ++ bind f t
  bind-append [] t = refl
  bind-append (x ∷ xs) t = ap (λ (r : List B). f x ++ r) (bind-append xs t) ∙ sym (append_assoc (f x) (bind f xs) (bind f t))

module _ {A B : Type 0} (f : A → B) where
  map_onto : (l r : List A) → map f (reverse_aux l r) ≡ reverse_aux (map f l) (map f r)
  map_onto [] r = refl
  map_onto (x ∷ xs) r = map_onto xs (x ∷ r)

  pub map-reverse : (l : List A) → map f (reverse l) ≡ reverse (map f l)
  map-reverse l = map_onto l []

module _ {A : Type 0} where
  -- the elements of what is turned over, and of what it is put onto
  mem_under : {x : A} (l r : List A) → Mem x r → Mem x (reverse_aux l r)
  mem_under [] r m = m
  mem_under (y ∷ ys) r m = mem_under ys (y ∷ r) (there m)

  mem_turned : {x : A} (l r : List A) → Mem x l → Mem x (reverse_aux l r)
  mem_turned [] r x'' = elim x'' [ ]
  mem_turned (y ∷ ys) r (here e) = mem_under ys (y ∷ r) (here e)
  mem_turned (y ∷ ys) r (there m) = mem_turned ys (y ∷ r) m

  pub mem-reverse : {x : A} (l : List A) → Mem x l → Mem x (reverse l)
  mem-reverse l m = mem_turned l [] m

  pub mem_of_reverse : {x : A} (l : List A) → Mem x (reverse l) → Mem x l
  mem_of_reverse {x} l m = subst (Mem x) (reverse-reverse l) (mem-reverse (reverse l) m)

  pub once-reverse : (l : List A) → Once l → Once (reverse l)
  once-reverse [] d = tt
  once-reverse (x ∷ xs) d =
      subst Once (sym (reverse-cons x xs)) (once-append (reverse xs) (x ∷ []) (once-reverse xs d.1) (mem-nil, tt) (λ y m k. apart y m k))
    where
      apart : (y : A) → Mem y (reverse xs) → Mem y (x ∷ []) → ⊥
      apart y m (here e) = d.0 (subst (λ (z : A). Mem z xs) e (mem_of_reverse xs m))
      apart y m (there k) = mem-nil k

-- ---- tests and filters of a list backward

module _ {A : Type 0} (p : A → Bool) (l : List A) where
  pub every-reverse : every p (reverse l) ≡ every p l
  every-reverse =
      bool_ext (every p (reverse l)) (every p l) (λ h. →every p l (λ x m. every→ p (reverse l) h x (mem-reverse l m)))
      (λ h. →every p (reverse l) (λ x m. every→ p l h x (mem_of_reverse l m)))

  pub any-reverse : any p (reverse l) ≡ any p l
  any-reverse = bool_ext (any p (reverse l)) (any p l) to from
    where
      to : T (any p (reverse l)) → T (any p l)
      to h = let q = any→ p (reverse l) h in →any p l (mem_of_reverse l q.1) q.2

      from : T (any p l) → T (any p (reverse l))
      from h = let q = any→ p l h in →any p (reverse l) (mem-reverse l q.1) q.2

module _ {A : Type 0} (p : A → Bool) where
  pub keep-reverse : (l : List A) → keep p (reverse l) ≡ reverse (keep p l)
  keep-reverse [] = refl
  keep-reverse (x ∷ xs) =
      ap (keep p) (reverse-cons x xs)
      ∙ keep_append p (reverse xs) (x ∷ [])
      ∙ ap (λ (r : List A). r ++ keep p (x ∷ [])) (keep-reverse xs)
      ∙ last (p x)
    where
      last : (b : Bool) → reverse (keep p xs) ++ keep_if b x [] ≡ reverse (keep_if b x (keep p xs))
      last true = sym (reverse-cons x (keep p xs))
      last false = append-nil (reverse (keep p xs))
