-- Lists one behind another, taken apart and put together.
--     every_append       both pass a test
--     part_front         a part that lies in the first
--     append-same        what follows one and the same list is one
--     Parted s t         neither has an element twice, and they share none
--     once_of_append     so it is where one behind the other has no element twice
-- Assumes nothing.
use mathlib.Core.Path.{◌≡◌, sym, ap, ◌∙◌}
use mathlib.Core.Bool.{Bool}
use mathlib.Core.List.Memᴰ
use mathlib.Core.List.{List, [], ◌∷◌, ◌++◌}
use mathlib.Core.List.Memᴰ.{head as here}
use mathlib.Core.List.Memᴰ.{not-nil as mem-nil}
use mathlib.Core.List.Memᴰ.{tail as there}
use mathlib.Core.List.{Memᴰ as Mem}
use Prim.Native.Nat.{ℕ, ◌+◌, ◌≤◌}
use native.Mathlib.Omega.{arith}
use lib.Dec.{T}
use lib.ListN.{length, take, drop, length-drop}
use lib.Seq.{drop-append_seam, take-append-le, drop-append-le}
use Rattle.laws.specs.Lists.{every, Once}
use Rattle.laws.proofs.Tests.{T_and, and_T}

module _ {A : Type 0} where
  pub every_append : (p : A → Bool) (s t : List A) → T (every p s) → T (every p t) → T (every p (s ++ t))
  every_append p [] t h k = k
  every_append p (x ∷ xs) t h k =
      let q = T_and (p x) (every p xs) h in
      and_T (p x) (every p (xs ++ t)) q.0 (every_append p xs t q.1 k)

  pub part_front : (s t : List A) (k n : ℕ) → k + n ≤ length s → take n (drop k (s ++ t)) ≡ take n (drop k s)
  part_front s t k n h =
      ap (take n) (drop-append-le k s t (omega arith)) ∙ take-append-le n (drop k s) t (omega (arith, length-drop k s))

  pub append-same : (s x y : List A) → s ++ x ≡ s ++ y → x ≡ y
  append-same s x y e = sym (drop-append_seam s x) ∙ ap (drop (length s)) e ∙ drop-append_seam s y

  pub record Parted (s t : List A) : Type 0 where
    pub left : Once s
    pub right : Once t
    pub none : (x : A) → Mem x s → Mem x t → ⊥

  pub once_of_append : (s t : List A) → Once (s ++ t) → Parted s t
  once_of_append [] t o = record { left = tt; right = o; none = λ x m k. mem-nil m }
  once_of_append (x ∷ xs) t o = go (once_of_append xs t o.1)
    where
      apart : Parted xs t → (y : A) → Mem y (x ∷ xs) → Mem y t → ⊥
      apart r y (here e) k = o.0 (Memᴰ.append_right xs (Memᴰ.cast (sym e) k))
      apart r y (there m) k = r.none y m k

      go : Parted xs t → Parted (x ∷ xs) t
      go r = record { left = ((λ m. o.0 (Memᴰ.append_left t m)), r.left); right = r.right; none = apart r }
