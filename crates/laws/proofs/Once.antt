-- Lists in which no element stands twice.
--     once-keep, once-append     what a filter leaves; two lists that share no element, one behind the other
--     once-map, once-bind        the images by a function that tells elements apart; the lists of `bind`, if they share no element
--     once-map-keep, once_of_map     the images of what a filter leaves; a list whose images don't repeat
--     once-length-le     a list without repetition whose elements are in another is no longer than that
--     once-length        two such lists with the same elements are of one length
--     map_inj            where the images don't repeat, equal images have equal elements
-- Assumes nothing.
use mathlib.Core.Path.{◌≡◌, refl, sym, ap, ◌∙◌, subst}
use mathlib.Core.Logic.{◌⊎◌, inl, inr, ◌≢◌}
use mathlib.Core.Bool.{Bool, true, false}
use mathlib.Core.List.Memᴰ
use mathlib.Core.List.{List, [], ◌∷◌, ◌++◌, map}
use mathlib.Core.List.Memᴰ.{head as here}
use mathlib.Core.List.Memᴰ.{tail as there}
use mathlib.Core.List.{Memᴰ as Mem}
use Prim.Native.Nat.{ℕ, suc, ◌≤◌, zero-le, suc-le-suc}
use native.Mathlib.Nat.{le_antisymm}
use lib.ListN.{length}
use Rattle.laws.specs.Lists.{keep_if, keep, bind, Once}
use Rattle.laws.proofs.Keep.{mem_of_keep, mem_of_bind}

module _ {A : Type 0} where
  pub once-keep : (p : A → Bool) (l : List A) → Once l → Once (keep p l)
  once-keep p [] d = tt
  once-keep p (x ∷ xs) d = go (p x) (once-keep p xs d.1)
    where
      go : (b : Bool) → Once (keep p xs) → Once (keep_if b x (keep p xs))
      go true r = ((λ m. d.0 (mem_of_keep p xs m).0), r)
      go false r = r

  pub once-append : (s t : List A) → Once s → Once t → ((x : A) → Mem x s → Mem x t → ⊥) → Once (s ++ t)
  once-append [] t d e f = e
  once-append (x ∷ xs) t d e f = (λ m. go (Memᴰ.append_cases xs m), once-append xs t d.1 e (λ y m k. f y (there m) k))
    where
      go : Mem x xs ⊎ Mem x t → ⊥
      go (inl m) = d.0 m
      go (inr m) = f x (here refl) m

  -- take one element out
  cut : {x : A} (l : List A) → Mem x l → List A
  cut [] x'' = elim x'' [ ]
  cut (y ∷ ys) (here e) = ys
  cut (y ∷ ys) (there m) = y ∷ cut ys m

  cut_length : {x : A} (l : List A) (m : Mem x l) → length l ≡ suc (length (cut l m))
  unfolding cut
  cut_length [] m = elim m [ ]
  cut_length (y ∷ ys) (here e) = refl
  cut_length (y ∷ ys) (there m) = ap suc (cut_length ys m)

  cut_mem : {x : A} (l : List A) (m : Mem x l) (y : A) → Mem y l → y ≢ x → Mem y (cut l m)
  unfolding cut
  cut_mem [] m y _ n = elim m [ ]
  cut_mem (z ∷ zs) (here e) y (here q) n = absurd (n (q ∙ sym e))
  cut_mem (z ∷ zs) (here e) y (there k) n = k
  cut_mem (z ∷ zs) (there m) y (here q) n = here q
  cut_mem (z ∷ zs) (there m) y (there k) n = there (cut_mem zs m y k n)

  pub once-length-le : (xs ys : List A) → Once xs → ((x : A) → Mem x xs → Mem x ys) → length xs ≤ length ys
  once-length-le [] ys d f = zero-le
  once-length-le (x ∷ xs) ys d f =
      let at = f x (here refl) in
      subst (λ (n : ℕ). suc (length xs) ≤ n) (sym (cut_length ys at))
      (suc-le-suc (once-length-le xs (cut ys at) d.1 (λ y m. cut_mem ys at y (f y (there m)) (λ e. d.0 (Memᴰ.cast (sym e) m)))))

  pub once-length : (xs ys : List A) → Once xs → Once ys → ((x : A) → Mem x xs → Mem x ys) → ((x : A) → Mem x ys → Mem x xs)
      → length xs ≡ length ys
  once-length xs ys d e f g = le_antisymm (once-length-le xs ys d f) (once-length-le ys xs e g)

module _ {A B : Type 0} where
  pub once-map : (f : A → B) (l : List A) → Once l → ((x y : A) → Mem x l → Mem y l → f x ≡ f y → x ≡ y) → Once (map f l)
  once-map f [] d i = tt
  once-map f (x ∷ xs) d i = (λ m. go (Memᴰ.of_map f xs m), once-map f xs d.1 (λ a b m k e. i a b (there m) (there k) e))
    where
      go : (a : A) × Mem a xs × (f a ≡ f x) → ⊥
      go q = d.0 (Memᴰ.cast (i x q.0 (here refl) (there q.1) (sym q.2)) q.1)

  pub once-bind : (f : A → List B) (l : List A) → Once l → ((x : A) → Mem x l → Once (f x))
      → ((x x' : A) (y : B) → Mem x l → Mem x' l → Mem y (f x) → Mem y (f x') → x ≡ x') → Once (bind f l)
  once-bind f [] d h i = tt
  once-bind f (x ∷ xs) d h i =
      once-append (f x) (bind f xs) (h x (here refl))
      (once-bind f xs d.1 (λ z m. h z (there m)) (λ a b y m k p q. i a b y (there m) (there k) p q))
      (λ y m k. let q = mem_of_bind f xs k in d.0 (Memᴰ.cast (i x q.0 y (here refl) (there q.1) m q.2) q.1))

module _ {A : Type 0} where
  pub once-map-keep : (f : A → ℕ) (p : A → Bool) (l : List A) → Once (map f l) → Once (map f (keep p l))
  once-map-keep f p [] d = tt
  once-map-keep f p (x ∷ xs) d = go (p x) (once-map-keep f p xs d.1)
    where
      out : Mem (f x) (map f (keep p xs)) → ⊥
      out m = let q = Memᴰ.of_map f (keep p xs) m in d.0 (Memᴰ.cast (sym q.2) (Memᴰ.map f (mem_of_keep p xs q.1).0))

      go : (b : Bool) → Once (map f (keep p xs)) → Once (map f (keep_if b x (keep p xs)))
      go true r = (out, r)
      go false r = r

  -- f tells the members apart
  pub map_inj : (f : A → ℕ) (l : List A) → Once (map f l) → (a b : A) → Mem a l → Mem b l → f a ≡ f b → a ≡ b
  map_inj f [] d a b x4 _ e = elim x4 [ ]
  map_inj f (x ∷ xs) d a b (here p) (here q) e = p ∙ sym q
  map_inj f (x ∷ xs) d a b (here p) (there k) e = absurd (d.0 (Memᴰ.cast (ap f (sym p) ∙ e) (Memᴰ.map f k)))
  map_inj f (x ∷ xs) d a b (there m) (here q) e = absurd (d.0 (Memᴰ.cast (ap f (sym q) ∙ sym e) (Memᴰ.map f m)))
  map_inj f (x ∷ xs) d a b (there m) (there k) e = map_inj f xs d.1 a b m k e

  pub once_of_map : (f : A → ℕ) (l : List A) → Once (map f l) → Once l
  once_of_map f [] d = tt
  once_of_map f (x ∷ xs) d = (λ m. d.0 (Memᴰ.map f m), once_of_map f xs d.1)
