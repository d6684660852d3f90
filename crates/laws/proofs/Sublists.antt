-- Sublists: which lists they are, that none repeats, and which of them pass a test.
--     in_front x ls         an element in front of each of some lists
--     sublists-keep        a filtered list is a sublist
--     mem_of_sublist       the elements of a sublist are the list's
--     sublists-once        a list without repetition has no sublist twice
--     sublist_is_keep      a sublist is what its elements are
--     keep-sublists-cons   the sublists that pass a test: those without the first element, and those with it
--     sublists-drop        elements that no sublist of interest has may be left out first
--     sublists-map         the sublists of images
--     sublists-map-keep    the images of a filtered list are a sublist
-- Assumes nothing.
use mathlib.Core.Path.{◌≡◌, refl, sym, ap, ap₂, ◌∙◌, subst}
use mathlib.Core.Logic.{◌⊎◌, inl, inr}
use mathlib.Core.Bool.{Bool, true, false}
use mathlib.Core.List.{List, [], ◌∷◌, ◌++◌, map, map-append, append-nil, tail-eq_of_cons-eq}
use mathlib.Core.List.Memᴰ
use mathlib.Core.List.Memᴰ.{head as here}
use mathlib.Core.List.Memᴰ.{not-nil as mem-nil}
use mathlib.Core.List.Memᴰ.{tail as there}
use mathlib.Core.List.{Memᴰ as Mem}
use lib.Dec.{T}
use Rattle.laws.specs.Lists.{keep_if, keep, sublists, twice, Once}
use Rattle.laws.proofs.Tests.{true_T}
use Rattle.laws.proofs.Keep.{keep_append, keep-none, keep-map}
use Rattle.laws.proofs.Once.{once-append, once-map}

module _ {A : Type 0} where
  abbrev pub in_front : A → List (List A) → List (List A)
  in_front x ls = map (λ (l : List A). x ∷ l) ls

  pub sublists-keep : (p : A → Bool) (l : List A) → Mem (keep p l) (sublists l)
  sublists-keep p [] = here refl
  sublists-keep p (x ∷ xs) = go (p x) (sublists-keep p xs)
    where
      go : (b : Bool) → Mem (keep p xs) (sublists xs) → Mem (keep_if b x (keep p xs)) (twice x (sublists xs))
      go true m = Memᴰ.append_right (sublists xs) (Memᴰ.map (λ (l : List A). x ∷ l) m)
      go false m = Memᴰ.append_left (in_front x (sublists xs)) m

  -- a sublist of x ∷ xs: of xs, or x and one of xs
  data Case (x : A) (xs s : List A) : Type 0 where
    passed : Mem s (sublists xs) → Case x xs s
    taken : (r : List A) → Mem r (sublists xs) → x ∷ r ≡ s → Case x xs s

  cases : (x : A) (xs : List A) {s : List A} → Mem s (sublists (x ∷ xs)) → Case x xs s
  cases x xs {s} m = go (Memᴰ.append_cases (sublists xs) m)
    where
      go : Mem s (sublists xs) ⊎ Mem s (in_front x (sublists xs)) → Case x xs s
      go (inl k) = passed k
      go (inr k) = let q = Memᴰ.of_map (λ (l : List A). x ∷ l) (sublists xs) k in taken q.0 q.1 q.2

  pub mem_of_sublist : (l s : List A) → Mem s (sublists l) → (x : A) → Mem x s → Mem x l
  mem_of_sublist [] s (here e) x m = subst (Mem x) e m
  mem_of_sublist [] s (there k) x m = absurd (mem-nil k)
  mem_of_sublist (y ∷ ys) s k x m = go (cases y ys k) (λ r h. mem_of_sublist ys r h x)
    where
      more : (r : List A) → Mem x (y ∷ r) → (Mem x r → Mem x ys) → Mem x (y ∷ ys)
      more r (here e) f = here e
      more r (there n) f = there (f n)

      go : Case y ys s → ((r : List A) → Mem r (sublists ys) → Mem x r → Mem x ys) → Mem x (y ∷ ys)
      go (passed h) ih = there (ih s h m)
      go (taken r h e) ih = more r (subst (Mem x) (sym e) m) (ih r h)

  pub sublists-once : (l : List A) → Once l → Once (sublists l)
  sublists-once [] d = (mem-nil, tt)
  sublists-once (x ∷ xs) d =
      once-append (sublists xs) (in_front x (sublists xs)) (sublists-once xs d.1)
      (once-map (λ (l : List A). x ∷ l) (sublists xs) (sublists-once xs d.1) (λ a b m k e. tail-eq_of_cons-eq e))
      (λ s m k. d.0 (mem_of_sublist xs s m x (first s k)))
    where
      first : (s : List A) → Mem s (in_front x (sublists xs)) → Mem x s
      first s k = subst (Mem x) (Memᴰ.of_map (λ (l : List A). x ∷ l) (sublists xs) k).2 (here refl)

  -- ---- a sublist is what its elements are

  -- p tells the elements of s among those of l
  record Tells (p : A → Bool) (l s : List A) : Type 0 where
    of : (x : A) → Mem x l → Mem x s → T (p x)
    to : (x : A) → Mem x l → T (p x) → Mem x s

  tells_passed : (p : A → Bool) (x : A) (xs s : List A) → Tells p (x ∷ xs) s → Tells p xs s
  tells_passed p x xs s t = record { of = λ y m. t.of y (there m); to = λ y m. t.to y (there m) }

  tells-taken : (p : A → Bool) (x : A) (xs r s : List A) → Once (x ∷ xs) → x ∷ r ≡ s → Tells p (x ∷ xs) s → Tells p xs r
  tells-taken p x xs r s d e t = record {
    of = λ y m k. t.of y (there m) (subst (Mem y) e (there k));
    to = λ y m h. back y m (subst (Mem y) (sym e) (t.to y (there m) h));
  }
    where
      back : (y : A) → Mem y xs → Mem y (x ∷ r) → Mem y r
      back y m (here q) = absurd (d.0 (Memᴰ.cast (sym q) m))
      back y m (there k) = k

  is_keep : (p : A → Bool) (l s : List A) → Once l → Mem s (sublists l) → Tells p l s → s ≡ keep p l
  is_keep p [] s d (here e) t = e
  is_keep p [] s d (there k) t = absurd (mem-nil k)
  is_keep p (x ∷ xs) s d k t = go (cases x xs k) (p x) refl (λ r m. is_keep p xs r d.1 m)
    where
      go : Case x xs s → (b : Bool) → p x ≡ b → ((r : List A) → Mem r (sublists xs) → Tells p xs r → r ≡ keep p xs)
          → s ≡ keep_if b x (keep p xs)
      go (passed m) true e ih = absurd (d.0 (mem_of_sublist xs s m x (t.to x (here refl) (true_T e))))
      go (passed m) false e ih = ih s m (tells_passed p x xs s t)
      go (taken r m q) true e ih = sym q ∙ ap (λ (l : List A). x ∷ l) (ih r m (tells-taken p x xs r s d q t))
      go (taken r m q) false e ih = absurd (subst T e (t.of x (here refl) (subst (Mem x) q (here refl))))

  pub sublist_is_keep : (p : A → Bool) (l s : List A) → Once l → Mem s (sublists l) → ((x : A) → Mem x l → Mem x s → T (p x))
      → ((x : A) → Mem x l → T (p x) → Mem x s) → s ≡ keep p l
  sublist_is_keep p l s d m f g = is_keep p l s d m (record { of = f; to = g })

  -- ---- the sublists that pass a test

  pub keep-sublists-cons : (p : List A → Bool) (x : A) (xs : List A)
      → keep p (sublists (x ∷ xs)) ≡ keep p (sublists xs) ++ in_front x (keep (λ (s : List A). p (x ∷ s)) (sublists xs))
  keep-sublists-cons p x xs =
      keep_append p (sublists xs) (in_front x (sublists xs))
      ∙ ap (λ (ls : List (List A)). keep p (sublists xs) ++ ls) (keep-map (λ (s : List A). x ∷ s) p (sublists xs))

  pub sublists-drop : (q : A → Bool) (p : List A → Bool) (l : List A) → ((s : List A) → T (p s) → (x : A) → Mem x s → T (q x))
      → keep p (sublists l) ≡ keep p (sublists (keep q l))
  sublists-drop q p [] f = refl
  sublists-drop q p (x ∷ xs) f =
      keep-sublists-cons p x xs
      ∙ ap₂ (λ (a b : List (List A)). a ++ in_front x b) (sublists-drop q p xs f) (sublists-drop q (λ (s : List A). p (x ∷ s)) xs with_first)
      ∙ go (q x) refl
    where
      with_first : (s : List A) → T (p (x ∷ s)) → (y : A) → Mem y s → T (q y)
      with_first s h y m = f (x ∷ s) h y (there m)

      rest : List (List A)
      rest = keep (λ (s : List A). p (x ∷ s)) (sublists (keep q xs))

      go : (b : Bool) → q x ≡ b → keep p (sublists (keep q xs)) ++ in_front x rest ≡ keep p (sublists (keep_if b x (keep q xs)))
      go true e = sym (keep-sublists-cons p x (keep q xs))
      go false e =
          ap (λ (ls : List (List A)). keep p (sublists (keep q xs)) ++ in_front x ls)
          (keep-none (λ (s : List A). p (x ∷ s)) (sublists (keep q xs)) (λ s _ h. subst T e (f (x ∷ s) h x (here refl))))
          ∙ append-nil (keep p (sublists (keep q xs)))

module _ {A B : Type 0} where
  pub sublists-map : (g : A → B) (l : List A) → sublists (map g l) ≡ map (map g) (sublists l)
  sublists-map g [] = refl
  sublists-map g (x ∷ xs) =
      ap (twice (g x)) (sublists-map g xs)
      ∙ ap (λ (r : List (List B)). map (map g) (sublists xs) ++ r) (swap (sublists xs))
      ∙ sym (map-append (map g) (sublists xs) (in_front x (sublists xs)))
    where
      swap : (ls : List (List A)) → in_front (g x) (map (map g) ls) ≡ map (map g) (in_front x ls)
      swap [] = refl
      swap (l ∷ ls) = ap (λ (r : List (List B)). (g x ∷ map g l) ∷ r) (swap ls)

  pub sublists-map-keep : (g : A → B) (p : A → Bool) (l : List A) → Mem (map g (keep p l)) (sublists (map g l))
  sublists-map-keep g p l = subst (Mem (map g (keep p l))) (sym (sublists-map g l)) (Memᴰ.map (map g) (sublists-keep p l))
