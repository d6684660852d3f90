-- A tree as facts about a family, and the children of a member.
--     Given               what a question about trees is asked of: width, degree bound, and the listed scored clusters
--     over, kid, kids     a member between two; a child, and the children of a member
--     Tree G C S          the family S is a tree on C
--     kids_local          what lies inside a member decides its children
--     KidOf, kid→, →kid   a child, as facts
--     clash               no listed cluster lies inside two that are apart
-- Assumes nothing.
use mathlib.Core.Path.{◌≡◌, refl, ap, ap₂}
use mathlib.Core.Logic.{◌≢◌}
use mathlib.Core.Bool.{Bool, true, false, not, ◌&&◌, ◌||◌}
use mathlib.Core.List.{List, Memᴰ as Mem}
use Prim.Native.Nat.{ℕ, ◌-◌, ◌^◌, ◌<◌}
use lib.Dec.{T, leb, T_not, not_T}
use lib.ListN.{length}
use Rattle.laws.specs.Cluster.{inside, strict, apart, nested, single}
use Rattle.laws.specs.Lists.{keep, any, Once}
use Rattle.laws.proofs.Tests.{T_and, and_T}
use Rattle.laws.proofs.Keep.{keep_ext, any_ext, any→, →any}
use Rattle.laws.proofs.Cluster.{strict→, apart_of_inside, zero_of_apart}
use Rattle.trees.proofs.Sets.Families.{Fam}

pub record Given : Type 0 where
  pub width : ℕ
  pub degree : ℕ
  pub listed : List ℕ
  pub sound : (c : ℕ) → Mem c listed → (c ≢ 0) × (c < 2 ^ width)
  pub once : Once listed

agree : (s s' b y y' : Bool) → (T b → s ≡ s') → (T b → y ≡ y') → (s && (b && y)) ≡ (s' && (b && y'))
agree s s' true y y' f g = ap₂ (λ (p q : Bool). p && q) (f tt) (g tt)
agree true true false y y' f g = refl
agree true false false y y' f g = refl
agree false true false y y' f g = refl
agree false false false y y' f g = refl

-- ---- a tree, as facts about a family
module _ (G : Given) where
  abbrev pub over : Fam → ℕ → ℕ → Bool
  over S m k = any (λ (l : ℕ). S l && (strict l m && strict k l)) G.listed

  abbrev pub kid : Fam → ℕ → ℕ → Bool
  kid S m k = S k && (strict k m && not (over S m k))

  abbrev pub kids : Fam → ℕ → List ℕ
  kids S m = keep (kid S m) G.listed

  pub record Tree (C : ℕ) (S : Fam) : Type 0 where
    pub listed : (c : ℕ) → T (S c) → Mem c G.listed
    pub within : (c : ℕ) → T (S c) → T (inside c C)
    pub top : T (S C)
    pub leaves : (t : ℕ) → t < G.width → T (inside (2 ^ t) C) → T (S (2 ^ t))
    pub laminar : (a b : ℕ) → T (S a) → T (S b) → T (nested a b)
    pub bounded : (m : ℕ) → T (S m) → T (single m || leb (length (kids S m)) (G.degree - 1))

  -- what is inside m decides m's children
  pub kids_local : (S U : Fam) (m : ℕ) → ((c : ℕ) → T (inside c m) → S c ≡ U c) → kids S m ≡ kids U m
  kids_local S U m f =
      keep_ext (kid S m) (kid U m) G.listed (λ k _.
      agree (S k) (U k) (strict k m) (not (over S m k)) (not (over U m k)) (λ h. f k (strict→ k m h).0)
      (λ h. ap not (any_ext (λ (l : ℕ). S l && (strict l m && strict k l)) (λ (l : ℕ). U l && (strict l m && strict k l)) G.listed
      (λ l _. agree (S l) (U l) (strict l m) (strict k l) (strict k l) (λ j. f l (strict→ l m j).0) (λ j. refl)))))

  -- k is a member strictly inside m, and no member lies between
  abbrev pub KidOf : Fam → ℕ → ℕ → Type 0
  KidOf S m k = T (S k) × T (strict k m) × ((l : ℕ) → Mem l G.listed → T (S l) → T (strict l m) → T (strict k l) → ⊥)

  pub kid→ : (S : Fam) (m k : ℕ) → T (kid S m k) → KidOf S m k
  kid→ S m k h =
      let p = T_and (S k) (strict k m && not (over S m k)) h in
      let q = T_and (strict k m) (not (over S m k)) p.1 in
      (p.0, q.0, λ l j a b c. T_not (over S m k) q.1 (between l j a b c))
    where
      between : (l : ℕ) → Mem l G.listed → T (S l) → T (strict l m) → T (strict k l) → T (over S m k)
      between l j a b c =
          →any (λ (x : ℕ). S x && (strict x m && strict k x)) G.listed j
          (and_T (S l) (strict l m && strict k l) a (and_T (strict l m) (strict k l) b c))

  pub →kid : (S : Fam) (m k : ℕ) → T (S k) → T (strict k m)
      → ((l : ℕ) → Mem l G.listed → T (S l) → T (strict l m) → T (strict k l) → ⊥) → T (kid S m k)
  →kid S m k a b f =
      and_T (S k) (strict k m && not (over S m k)) a (and_T (strict k m) (not (over S m k)) b (not_T (over S m k) none))
    where
      none : T (over S m k) → ⊥
      none h =
          let q = any→ (λ (l : ℕ). S l && (strict l m && strict k l)) G.listed h in
          let r = T_and (S q.0) (strict q.0 m && strict k q.0) q.2 in
          let s = T_and (strict q.0 m) (strict k q.0) r.1 in
          f q.0 q.1 r.0 s.0 s.1

  pub clash : (c a b : ℕ) → Mem c G.listed → T (apart a b) → T (inside c a) → T (inside c b) → ⊥
  clash c a b m h i j = (G.sound c m).0 (zero_of_apart c (apart_of_inside a b c c h i j))
