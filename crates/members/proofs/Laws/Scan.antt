-- Loops over a list: what the elements from place i on say is what all of them say.
--     drop_more            the elements from place i on are the one at i and those from the next place on
--     From whole f l i     the whole is what f says of the elements from place i on
--     from-none, from_more, from_stop, from_end     the first place; a place that is passed, one that decides, and the end
--     EveryFrom, every_more, every_stop, every-end     whether all pass a test: a place that does, one that doesn't, and the end
--     AnyFrom, any-more, any_stop, any-end             whether one passes, in the same way
--     CountFrom p l n i    n and those from place i on that pass are all that pass
--     count_none, count-more, count_same, count_end, count-le     none yet; one that passes, one that doesn't; all; no more than there are
-- Assumes nothing.
use mathlib.Core.Path.{◌≡◌, refl, sym, ap, ◌∙◌}
use mathlib.Core.Bool.{Bool, true, false, ◌&&◌, ◌||◌}
use mathlib.Core.List.{List, [], ◌∷◌}
use Prim.Native.Nat.{ℕ, ◌+◌, ◌≤◌, ◌<◌}
use native.Mathlib.Numerals.{add-one}
use native.Mathlib.Omega.{arith}
use lib.ListN.{length, get_or, drop, drop_of_length-le}
use lib.Seq.{drop-cons}
use Rattle.laws.specs.Lists.{keep_if, keep, every, any}
use Rattle.laws.proofs.Keep.{length-keep-le}

pub drop_more : (l : List ℕ) (i : ℕ) → i < length l → drop i l ≡ get_or l i 0 ∷ drop (i + 1) l
drop_more l i h = rw (add-one i, drop-cons l i 0 h)

pub record From {B : Type 0} (whole : B) (f : List ℕ → B) (l : List ℕ) (i : ℕ) : Type 0 where
  pub place : i ≤ length l
  pub rest : whole ≡ f (drop i l)

pub from-none : {B : Type 0} {f : List ℕ → B} {l : List ℕ} → From (f l) f l 0
from-none = record { place = omega arith; rest = refl }

module _ {B : Type 0} {whole : B} {f : List ℕ → B} {l : List ℕ} {i : ℕ} (s : From whole f l i) where
  pub from_stop : i < length l → {y : B} → f (get_or l i 0 ∷ drop (i + 1) l) ≡ y → y ≡ whole
  from_stop h e = sym (s.rest ∙ ap f (drop_more l i h) ∙ e)

  pub from_more : i < length l → {g : List ℕ → B} → f (get_or l i 0 ∷ drop (i + 1) l) ≡ g (drop (i + 1) l) → From whole g l (i + 1)
  from_more h e = record { place = omega arith; rest = sym (from_stop h e) }

  pub from_end : length l ≤ i → f [] ≡ whole
  from_end h = sym (s.rest ∙ ap f (drop_of_length-le l h))

-- ---- all pass, or one does
module _ (p : ℕ → Bool) (l : List ℕ) (i : ℕ) where
  abbrev pub EveryFrom : Type 0
  EveryFrom = From (every p l) (every p) l i

  abbrev pub AnyFrom : Type 0
  AnyFrom = From (any p l) (any p) l i

module _ (p : ℕ → Bool) {l : List ℕ} {i : ℕ} where
  pub every_more : EveryFrom p l i → i < length l → p (get_or l i 0) ≡ true → EveryFrom p l (i + 1)
  every_more s h e = from_more s h (ap (λ (b : Bool). b && every p (drop (i + 1) l)) e)

  pub every_stop : EveryFrom p l i → i < length l → p (get_or l i 0) ≡ false → false ≡ every p l
  every_stop s h e = from_stop s h (ap (λ (b : Bool). b && every p (drop (i + 1) l)) e)

  pub any-more : AnyFrom p l i → i < length l → p (get_or l i 0) ≡ false → AnyFrom p l (i + 1)
  any-more s h e = from_more s h (ap (λ (b : Bool). b || any p (drop (i + 1) l)) e)

  pub any_stop : AnyFrom p l i → i < length l → p (get_or l i 0) ≡ true → true ≡ any p l
  any_stop s h e = from_stop s h (ap (λ (b : Bool). b || any p (drop (i + 1) l)) e)

-- ---- how many pass
pub record CountFrom (p : ℕ → Bool) (l : List ℕ) (n i : ℕ) : Type 0 where
  pub from : From (length (keep p l)) (λ (r : List ℕ). n + length (keep p r)) l i

module _ {p : ℕ → Bool} {l : List ℕ} where
  pub count_none : CountFrom p l 0 0
  count_none = record { from = record { place = omega arith; rest = omega arith } }

  module _ {n i : ℕ} (s : CountFrom p l n i) where
    -- one more or as many, by the test of the element at i
    counted : (b : Bool) → p (get_or l i 0) ≡ b → let rest = keep p (drop (i + 1) l) in
        n + length (keep p (get_or l i 0 ∷ drop (i + 1) l)) ≡ n + length (keep_if b (get_or l i 0) rest)
    counted b e = ap (λ (t : Bool). n + length (keep_if t (get_or l i 0) (keep p (drop (i + 1) l)))) e

    pub count-more : i < length l → p (get_or l i 0) ≡ true → CountFrom p l (n + 1) (i + 1)
    count-more h e = record { from = from_more s.from h (counted true e ∙ omega arith) }

    pub count_same : i < length l → p (get_or l i 0) ≡ false → CountFrom p l n (i + 1)
    count_same h e = record { from = from_more s.from h (counted false e) }

    pub count_end : length l ≤ i → n ≡ length (keep p l)
    count_end h = omega (arith, from_end s.from h)

    pub count-le : n ≤ length l
    count-le = omega (arith, s.from.rest, length-keep-le p l)
