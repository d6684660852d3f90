-- Lists that rise by a key, and the lists of `specs/Drawn.antt` in order.
--     RisingBy key l            each element's key is less than the keys of all that follow
--     rising-once, rising-only  such a list has no element twice, and its elements decide it
--     rising-map, map-rising    as a test of the keys, into it and out of it
--     sort_rising               a sorted list rises where different elements have different keys
--     ascending-rising, ascending_is_reverse     the clusters of a set by number; of a list that falls it is the list backward
-- Assumes nothing.
use mathlib.Core.Path.{◌≡◌, refl}
use mathlib.Core.Logic.{◌⊎◌, inl, inr, ◌≢◌}
use mathlib.Core.Bool.{Bool, true, false}
use mathlib.Core.List.{List, [], ◌∷◌, ◌++◌, map, reverse, reverse-cons}
use mathlib.Core.List.Memᴰ
use mathlib.Core.List.Memᴰ.{head as here}
use mathlib.Core.List.Memᴰ.{not-nil as mem-nil}
use mathlib.Core.List.Memᴰ.{tail as there}
use mathlib.Core.List.{Memᴰ as Mem}
use Prim.Native.Nat.{ℕ, ◌<◌}
use native.Mathlib.Omega.{arith}
use borrow.Author.Tests.{ltb-true, ltb-false}
use lib.Dec.{T, ltb, ltb→lt, lt→ltb}
use Rattle.laws.specs.Lists.{every, Once, Same}
use Rattle.laws.specs.Orders.{InTurn, Falling, sort_by}
use Rattle.laws.proofs.Tests.{T_and, and_T}
use Rattle.laws.proofs.Keep.{every→, →every}
use Rattle.laws.proofs.Falling.{falling_once}
use Rattle.laws.proofs.Appended.{mem-reverse, mem_of_reverse}
use Rattle.laws.proofs.Sort.{mem_sort, mem_of_sort, Sides, sort_in_turn, in_turn_only}
use Rattle.shapes.specs.Shape.{ascends}
use Rattle.shapes.specs.Drawn.{ascending}

abbrev pub RisingBy : (ℕ → ℕ) → List ℕ → Type 0
RisingBy key = InTurn (λ (c x : ℕ). key c < key x)

module _ (key : ℕ → ℕ) where
  pub rising-once : (l : List ℕ) → RisingBy key l → Once l
  rising-once [] r = tt
  rising-once (c ∷ cs) r = (λ m. omega (arith, r.0 c m), rising-once cs r.1)

  pub rising-only : (xs ys : List ℕ) → RisingBy key xs → RisingBy key ys → Same xs ys → xs ≡ ys
  rising-only = in_turn_only (λ (c x : ℕ). key c < key x) (λ c x h k. omega arith)

  pub rising-map : (l : List ℕ) → RisingBy key l → T (ascends (map key l))
  rising-map [] r = tt
  rising-map (c ∷ cs) r =
      and_T (every (ltb (key c)) (map key cs)) (ascends (map key cs)) (→every (ltb (key c)) (map key cs) above) (rising-map cs r.1)
    where
      above : (n : ℕ) → Mem n (map key cs) → T (ltb (key c) n)
      above n m = let q = Memᴰ.of_map key cs m in lt→ltb (key c) n (omega (arith, r.0 q.0 q.1, q.2))

  pub map-rising : (l : List ℕ) → T (ascends (map key l)) → RisingBy key l
  map-rising [] h = tt
  map-rising (c ∷ cs) h =
      let q = T_and (every (ltb (key c)) (map key cs)) (ascends (map key cs)) h in
      ((λ x m. ltb→lt (key c) (key x) (every→ (ltb (key c)) (map key cs) q.0 (key x) (Memᴰ.map key m))), map-rising cs q.1)

  -- ---- sorting
  abbrev first : ℕ → ℕ → Bool
  first c x = ltb (key c) (key x)

  side : (c x : ℕ) → key c ≢ key x → Sides (λ (a b : ℕ). key a < key b) (first c x) c x
  side c x n = go (first c x) refl
    where
      go : (b : Bool) → first c x ≡ b → Sides (λ (a b : ℕ). key a < key b) b c x
      go true e = ltb-true (key c) (key x) e
      go false e = omega (arith, ltb-false (key c) (key x) e)

  sides : (l : List ℕ) → Once l → ((a b : ℕ) → Mem a l → Mem b l → key a ≡ key b → a ≡ b)
      → InTurn (λ (c x : ℕ). Sides (λ (a b : ℕ). key a < key b) (first c x) c x) l
  sides [] o f = tt
  sides (c ∷ cs) o f =
      (λ x m. side c x (λ e. o.0 (Memᴰ.cast (f c x (here refl) (there m) e) m)), sides cs o.1 (λ a b m k. f a b (there m) (there k)))

  pub sort_rising : (l : List ℕ) → Once l → ((a b : ℕ) → Mem a l → Mem b l → key a ≡ key b → a ≡ b) → RisingBy key (sort_by first l)
  sort_rising l o f = sort_in_turn first (λ (c x : ℕ). key c < key x) (λ a b c h k. omega arith) l (sides l o f)

-- ---- by number

pub ascending-rising : (xs : List ℕ) → Once xs → RisingBy (λ (c : ℕ). c) (ascending xs)
ascending-rising xs o = sort_rising (λ (c : ℕ). c) xs o (λ a b m k e. e)

rising_last : (l : List ℕ) (c : ℕ) → RisingBy (λ (c : ℕ). c) l → ((x : ℕ) → Mem x l → x < c) → RisingBy (λ (c : ℕ). c) (l ++ (c ∷ []))
rising_last [] c r f = ((λ x m. absurd (mem-nil m)), tt)
rising_last (y ∷ ys) c r f = (above, rising_last ys c r.1 (λ x m. f x (there m)))
  where
    in_last : (x : ℕ) → Mem x ys ⊎ Mem x (c ∷ []) → y < x
    in_last x (inl m) = r.0 x m
    in_last x (inr m) = omega (arith, f y (here refl), Memᴰ.eq_of_singleton m)

    above : (x : ℕ) → Mem x (ys ++ (c ∷ [])) → y < x
    above x m = in_last x (Memᴰ.append_cases ys m)

rising-reverse : (xs : List ℕ) → Falling xs → RisingBy (λ (c : ℕ). c) (reverse xs)
rising-reverse [] f = tt
rising-reverse (c ∷ cs) f =
    rw (reverse-cons c cs) (rising_last (reverse cs) c (rising-reverse cs f.1) (λ x m. f.0 x (mem_of_reverse cs m)))

pub ascending_is_reverse : (xs : List ℕ) → Falling xs → ascending xs ≡ reverse xs
ascending_is_reverse xs f =
    rising-only (λ (c : ℕ). c) (ascending xs) (reverse xs) (ascending-rising xs (falling_once xs f)) (rising-reverse xs f)
    (record { to = λ x m. mem-reverse xs (mem_of_sort ltb xs m); from = λ x m. mem_sort ltb xs (mem_of_reverse xs m) })
