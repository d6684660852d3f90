-- Lists of numbers that fall strictly, and sublists of numbers as the tests of their members.
--     in_turn_keep         so it is in what a filter leaves
--     falling_once         such a list has no number twice
--     falling_above        what stands in front of a number is larger
--     elem-keep            membership in a filtered list is the test
--     sublist_is_elem      a sublist keeps its members
--     sublist_trans        a sublist of a sublist is a sublist
--     keep-only            what a falling list has of one of its numbers
--     sublist-only         two sublists with the same images are equal, where the images of the list don't repeat
-- Assumes nothing.
use mathlib.Core.Path.{◌≡◌, refl, sym, ap, ◌∙◌, subst}
use mathlib.Core.Bool.{Bool, true, false, ◌&&◌}
use mathlib.Core.List.Memᴰ
use mathlib.Core.List.{List, [], ◌∷◌, ◌++◌, map}
use mathlib.Core.List.Memᴰ.{head as here}
use mathlib.Core.List.Memᴰ.{tail as there}
use mathlib.Core.List.{Memᴰ as Mem}
use Prim.Native.Nat.{ℕ, ◌<◌}
use native.Mathlib.Omega.{arith}
use lib.Dec.{T, eqb, eqb→eq}
use Rattle.laws.specs.Lists.{keep_if, keep, elem, sublists, Once}
use Rattle.laws.specs.Orders.{InTurn, Falling}
use Rattle.laws.proofs.Tests.{bool_ext, T_true, T_false, eq→eqb}
use Rattle.laws.proofs.Keep.{mem-keep, mem_of_keep, elem→, →elem, keep-keep, keep-none}
use Rattle.laws.proofs.Once.{once-keep, map_inj, once_of_map}
use Rattle.laws.proofs.Sublists.{sublists-keep, mem_of_sublist, sublist_is_keep}

pub in_turn_keep : {A : Type 0} (R : A → A → Type 0) (p : A → Bool) (l : List A) → InTurn R l → InTurn R (keep p l)
in_turn_keep R p [] h = tt
in_turn_keep R p (x ∷ xs) h = go (p x) (in_turn_keep R p xs h.1)
  where
    go : (b : Bool) → InTurn R (keep p xs) → InTurn R (keep_if b x (keep p xs))
    go true k = ((λ y m. h.0 y (mem_of_keep p xs m).0), k)
    go false k = k

pub falling_once : (cs : List ℕ) → Falling cs → Once cs
falling_once [] f = tt
falling_once (c ∷ cs) f = (λ m. omega (arith, f.0 c m), falling_once cs f.1)

pub falling_above : (up : List ℕ) (c : ℕ) (cs : List ℕ) → Falling (up ++ (c ∷ cs)) → (a : ℕ) → Mem a up → c < a
falling_above [] c cs f a x'' = elim x'' [ ]
falling_above (x ∷ up) c cs f a (here e) = rw e (f.0 c (Memᴰ.append_right up (here refl)))
falling_above (x ∷ up) c cs f a (there m) = falling_above up c cs f.1 a m

pub elem-keep : (p : ℕ → Bool) (l : List ℕ) (c : ℕ) → (T (p c) → Mem c l) → elem c (keep p l) ≡ p c
elem-keep p l c f =
    bool_ext (elem c (keep p l)) (p c) (λ h. (mem_of_keep p l (elem→ c (keep p l) h)).1) (λ h. →elem c (keep p l) (mem-keep p l (f h) h))

pub sublist_is_elem : (cs xs : List ℕ) → Once cs → Mem xs (sublists cs) → xs ≡ keep (λ (c : ℕ). elem c xs) cs
sublist_is_elem cs xs o m = sublist_is_keep (λ (c : ℕ). elem c xs) cs xs o m (λ c _ k. →elem c xs k) (λ c _ h. elem→ c xs h)

pub sublist_trans : (cs L xs : List ℕ) → Once cs → Mem L (sublists cs) → Mem xs (sublists L) → Mem xs (sublists cs)
sublist_trans cs L xs o m k = subst (λ (l : List ℕ). Mem l (sublists cs)) (sym whole) (sublists-keep (λ (c : ℕ). elem c L && elem c xs) cs)
  where
    top : L ≡ keep (λ (c : ℕ). elem c L) cs
    top = sublist_is_elem cs L o m

    once : Once L
    once = subst Once (sym top) (once-keep (λ (c : ℕ). elem c L) cs o)

    whole : xs ≡ keep (λ (c : ℕ). elem c L && elem c xs) cs
    whole =
        sublist_is_elem L xs once k
        ∙ ap (keep (λ (c : ℕ). elem c xs)) top
        ∙ keep-keep (λ (c : ℕ). elem c xs) (λ (c : ℕ). elem c L) cs

-- what a falling list has of one of its numbers
pub keep-only : (cs : List ℕ) (c : ℕ) → Falling cs → Mem c cs → keep (λ (x : ℕ). eqb x c) cs ≡ c ∷ []
keep-only [] c f x'' = elim x'' [ ]
keep-only (x ∷ cs) c f (here e) =
    ap (λ (b : Bool). keep_if b x (keep (λ (y : ℕ). eqb y c) cs)) (T_true (eqb x c) (eq→eqb x c (sym e)))
    ∙ ap (λ (l : List ℕ). x ∷ l) (keep-none (λ (y : ℕ). eqb y c) cs (λ y m t. omega (arith, f.0 y m, eqb→eq y c t, e)))
    ∙ ap (λ (y : ℕ). y ∷ []) (sym e)
keep-only (x ∷ cs) c f (there m) =
    ap (λ (b : Bool). keep_if b x (keep (λ (y : ℕ). eqb y c) cs)) (T_false (eqb x c) (λ t. omega (arith, f.0 c m, eqb→eq x c t)))
    ∙ keep-only cs c f.1 m

-- ---- sublists by the images of their elements

module _ {A : Type 0} (f : A → ℕ) (l : List A) (o : Once (map f l)) where
  -- an element whose image a sublist has is in the sublist
  by_image : (s : List A) → Mem s (sublists l) → (x : A) → Mem x l → Mem (f x) (map f s) → Mem x s
  by_image s m x i k =
      let q = Memᴰ.of_map f s k in
      Memᴰ.cast (map_inj f l o x q.0 i (mem_of_sublist l s m q.0 q.1) (sym q.2)) q.1

  abbrev Within : List A → List A → Type 0
  Within s t = (x : A) → Mem x s → Mem (f x) (map f t)

  pub sublist-only : (s t : List A) → Mem s (sublists l) → Mem t (sublists l) → Within s t → Within t s → s ≡ t
  sublist-only s t m k into back =
      sublist_is_keep p l s (once_of_map f l o) m (λ x i j. →elem (f x) (map f s) (Memᴰ.map f j))
      (λ x i h. by_image s m x i (elem→ (f x) (map f s) h))
      ∙ sym (sublist_is_keep p l t (once_of_map f l o) k (λ x i j. →elem (f x) (map f s) (back x j))
      (λ x i h. by_image t k x i (through x (Memᴰ.of_map f s (elem→ (f x) (map f s) h)))))
    where
      p : A → Bool
      p x = elem (f x) (map f s)

      through : (x : A) → (y : A) × Mem y s × (f y ≡ f x) → Mem (f x) (map f t)
      through x q = Memᴰ.cast (sym q.2) (into q.0 q.1)
