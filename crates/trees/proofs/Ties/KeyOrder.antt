-- Keys are a weight and a set as a number; `key_first` puts the heavier first, and of two as heavy the larger number.
--     Before, before→, →before     the test as facts, out of it and into it
--     key_irrefl, key_trans        a strict order
--     Which, which                 of any two keys one comes first, or they are equal
-- Assumes nothing.
use mathlib.Core.Path.{◌≡◌, sym, ◌∙◌, subst}
use mathlib.Core.Logic.{◌⊎◌, inl, inr}
use mathlib.Core.Bool.{not, ◌&&◌}
use Prim.Native.Nat.{◌<◌}
use native.Mathlib.Decide.{dec_lt}
use native.Mathlib.Omega.{arith}
use lib.Dec.{T, T_not, not_T, ltb, ltb→lt, lt→ltb}
use lib.IntN.{ℤ}
use lib.Signed.{lt_z}
use Rattle.laws.proofs.Integers.{lt_z_trans, lt_z_irrefl, Tri, tri}
use Rattle.laws.proofs.Tests.{T_and, and_T, T-or, or_l, or_r}
use Rattle.trees.specs.Beneath.{Key, key_first}

pub data Before (x y : Key) : Type 0 where
  heavier : T (lt_z y.0 x.0) → Before x y
  level : x.0 ≡ y.0 → y.1 < x.1 → Before x y

pub before→ : (x y : Key) → T (key_first x y) → Before x y
before→ x y h = go (T-or (lt_z y.0 x.0) (not (lt_z x.0 y.0) && ltb y.1 x.1) h)
  where
    even : T (not (lt_z x.0 y.0)) → y.1 < x.1 → Tri x.0 y.0 → Before x y
    even n l (Tri.less k) = absurd (T_not (lt_z x.0 y.0) n k)
    even n l (Tri.same e) = level e l
    even n l (Tri.more k) = heavier k

    go : T (lt_z y.0 x.0) ⊎ T (not (lt_z x.0 y.0) && ltb y.1 x.1) → Before x y
    go (inl l) = heavier l
    go (inr k) =
        let q = T_and (not (lt_z x.0 y.0)) (ltb y.1 x.1) k in
        even q.0 (ltb→lt y.1 x.1 q.1) (tri x.0 y.0)

pub →before : (x y : Key) → Before x y → T (key_first x y)
→before x y (heavier l) = or_l (lt_z y.0 x.0) (not (lt_z x.0 y.0) && ltb y.1 x.1) l
→before x y (level e l) =
    let even = not_T (lt_z x.0 y.0) (λ h. lt_z_irrefl y.0 (subst (λ (z : ℤ). T (lt_z z y.0)) e h)) in
    or_r (lt_z y.0 x.0) (not (lt_z x.0 y.0) && ltb y.1 x.1)
    (and_T (not (lt_z x.0 y.0)) (ltb y.1 x.1) even (lt→ltb y.1 x.1 l))

pub key_irrefl : (x : Key) → T (key_first x x) → ⊥
key_irrefl x h = go (before→ x x h)
  where
    go : Before x x → ⊥
    go (heavier l) = lt_z_irrefl x.0 l
    go (level e l) = omega arith

pub key_trans : (x y z : Key) → T (key_first x y) → T (key_first y z) → T (key_first x z)
key_trans x y z h k = →before x z (go (before→ x y h) (before→ y z k))
  where
    go : Before x y → Before y z → Before x z
    go (heavier a) (heavier b) = heavier (lt_z_trans z.0 y.0 x.0 b a)
    go (heavier a) (level e l) = heavier (subst (λ (v : ℤ). T (lt_z v x.0)) e a)
    go (level e l) (heavier b) = heavier (subst (λ (v : ℤ). T (lt_z z.0 v)) (sym e) b)
    go (level e l) (level f m) = level (e ∙ f) (omega arith)

pub data Which (x y : Key) : Type 0 where
  ahead : T (key_first x y) → Which x y
  same : x ≡ y → Which x y
  behind : T (key_first y x) → Which x y

pub which : (x y : Key) → Which x y
which x y = go (tri x.0 y.0) (dec_lt y.1 x.1) (dec_lt x.1 y.1)
  where
    go : Tri x.0 y.0 → Dec (y.1 < x.1) → Dec (x.1 < y.1) → Which x y
    go (Tri.less l) a b = behind (→before y x (heavier l))
    go (Tri.more l) a b = ahead (→before x y (heavier l))
    go (Tri.same e) (yes l) b = ahead (→before x y (level e l))
    go (Tri.same e) (no f) (yes l) = behind (→before y x (level (sym e) l))
    go (Tri.same e) (no f) (no g) = let d : x.1 ≡ y.1 = omega arith in same (λ i. (e i, d i))
