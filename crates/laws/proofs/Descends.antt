-- Lists of clusters with the largest first: strictly falling, and none of them 0. The rows of a table stand so.
--     First, Descends cs   strictly falling, and none is 0
--     descends_first       the first is larger than every other
--     descends_map-keep    what a filter leaves falls too
--     falling_of_descends, descends_of_falling     a list that falls, and has no 0
--     descends_once        none stands there twice
-- Assumes nothing.
use mathlib.Core.Path.{refl}
use mathlib.Core.Logic.{◌≢◌}
use mathlib.Core.Bool.{Bool, true, false}
use mathlib.Core.List.Memᴰ
use mathlib.Core.List.{List, [], ◌∷◌, map}
use mathlib.Core.List.Memᴰ.{head as here}
use mathlib.Core.List.Memᴰ.{tail as there}
use mathlib.Core.List.{Memᴰ as Mem}
use Prim.Native.Nat.{ℕ, zero, suc, ◌<◌}
use native.Mathlib.Omega.{arith}
use Rattle.laws.specs.Lists.{keep_if, keep, Once}
use Rattle.laws.specs.Orders.{Falling}
use Rattle.laws.proofs.Falling.{falling_once}
use Rattle.laws.proofs.Keep.{mem_of_keep}

-- the first of some clusters, and the others
pub record First (c : ℕ) (cs : List ℕ) : Type 0 where
  pub nonzero : 0 < c
  pub larger : (x : ℕ) → Mem x cs → x < c

abbrev pub Descends : List ℕ → Type 0
Descends [] = Unit {0}
Descends (c ∷ cs) = First c cs × Descends cs

pub falling_of_descends : (cs : List ℕ) → Descends cs → Falling cs
falling_of_descends [] h = tt
falling_of_descends (c ∷ cs) h = (h.0.larger, falling_of_descends cs h.1)

pub descends_once : (cs : List ℕ) → Descends cs → Once cs
descends_once cs h = falling_once cs (falling_of_descends cs h)

module _ {A : Type 0} (f : A → ℕ) where
  pub descends_first : (x : A) (xs : List A) → Descends (map f (x ∷ xs)) → (y : A) → Mem y xs → f y < f x
  descends_first x xs h y m = h.0.larger (f y) (Memᴰ.map f m)

  pub descends_map-keep : (p : A → Bool) (l : List A) → Descends (map f l) → Descends (map f (keep p l))
  descends_map-keep p [] h = tt
  descends_map-keep p (x ∷ xs) h = go (p x) (descends_map-keep p xs h.1)
    where
      less : (c : ℕ) → Mem c (map f (keep p xs)) → c < f x
      less c m =
          let q = Memᴰ.of_map f (keep p xs) m in
          omega (arith, q.2, descends_first x xs h q.0 (mem_of_keep p xs q.1).0)

      go : (b : Bool) → Descends (map f (keep p xs)) → Descends (map f (keep_if b x (keep p xs)))
      go true r = (record { nonzero = h.0.nonzero; larger = less }, r)
      go false r = r

pub descends_of_falling : (cs : List ℕ) → Falling cs → ((c : ℕ) → Mem c cs → c ≢ 0) → Descends cs
descends_of_falling [] f n = tt
descends_of_falling (c ∷ cs) f n =
    (record { nonzero = pos_of c (n c (here refl)); larger = f.0 }, descends_of_falling cs f.1 (λ x m. n x (there m)))
  where
    pos_of : (x : ℕ) → x ≢ 0 → 0 < x
    pos_of zero g = absurd (g refl)
    pos_of (suc x) g = omega arith
