-- What counts with keys keep when they are summed over tuples or covers, so that no word overflows and a row worked out is fit. cs are the
-- clusters of all rows, b is above every member, R is what is covered, and m says by how many parts at least.
--     Held cs b m R x          the count is 1 or more, the set is that of a family of clusters inside R, and the weight is light
--     Keeps cs b m R u         the same of a result that may have no tree
--     join_each                what holds of the members of two families holds of those of both
--     held_disj                two that cover R together have no member in common
--     keeps_counted, keeps_fewer, keeps_plus, keeps_times     what follows from it, and what keeps it
--     prod_keeps, sum_keeps    so does the product of parts that are apart, and the sum over such sets of parts, in any kind of result that
--                              has a count with a key
--     Part, prod_one, sum-count     parts of the search: a product of them counts as one, and a sum counts its tuples
-- Assumes nothing.
use mathlib.Core.Path.{◌≡◌, refl, sym, ap₂, ◌∙◌, subst}
use mathlib.Core.Logic.{◌⊎◌, inl, inr, ◌≢◌}
use mathlib.Core.Bool.{Bool, true, false, cond}
use mathlib.Core.Option.{Option, none, some}
use mathlib.Core.List.{List, [], ◌∷◌, map}
use mathlib.Core.List.Memᴰ.{head as here}
use mathlib.Core.List.Memᴰ.{tail as there}
use mathlib.Core.List.{Memᴰ as Mem}
use Prim.Native.Nat.{ℕ, ◌+◌, ◌-◌, ◌*◌, ◌≤◌, ◌<◌}
use native.Mathlib.Nat.{one-le-mul, le_refl}
use native.Mathlib.Numerals.{one-add}
use native.Mathlib.Omega.{arith}
use lib.Bits.{bit_or}
use lib.Dec.{T}
use lib.IntN.{pos, nat_abs, ◌+ℤ◌}
use lib.ListN.{length}
use Rattle.laws.specs.Cluster.{inside, apart, size, union_of}
use Rattle.laws.specs.Limits.{weight_max}
use Rattle.laws.specs.Lists.{every}
use Rattle.laws.proofs.Cluster.{inside_trans, zero_of_apart, apart_of_inside, apart-union_of, inside-union_l}
use Rattle.laws.proofs.Cluster.{rest_apart, rest_inside, rest_union}
use Rattle.laws.proofs.Integers.{abs_sum-le}
use Rattle.laws.proofs.Taxa.{size_part}
use Rattle.laws.proofs.Tests.{T_and, T-or}
use Rattle.trees.specs.Result.{marks_in}
use Rattle.trees.specs.Rows.{Entry, cl}
use Rattle.trees.specs.Tuple.{all_apart}
use Rattle.trees.specs.Kind.{Kind, prod_k, over_tuples}
use Rattle.trees.specs.Beneath.{key_first}
use Rattle.trees.specs.Solution.{Sol, plus_sol, times_sol, sol_kind, Res}
use Rattle.trees.proofs.Sets.Families.{Fam, join, empty, Disj}
use Rattle.trees.proofs.Formula.Kind.{Hom}
use Rattle.trees.proofs.Counting.Capped.{Counted}
use Rattle.trees.proofs.Ties.Marks.{marks-none, marks_join}
use Rattle.table.specs.Columns.{sum_kind}

pub record Held (cs : List ℕ) (b m R : ℕ) (x : Sol) : Type 0 where
  pub counted : 1 ≤ x.0
  pub members : Fam
  pub coded : x.1.1 ≡ marks_in cs members
  pub nonzero : (c : ℕ) → T (members c) → c ≢ 0
  pub within : (c : ℕ) → T (members c) → T (inside c R)
  pub below : (c : ℕ) → T (members c) → c < b
  pub light : nat_abs x.1.0 + m * weight_max ≤ 2 * weight_max * size R

abbrev pub Keeps : List ℕ → ℕ → ℕ → ℕ → Option Sol → Type 0
Keeps cs b m R none = Unit {0}
Keeps cs b m R (some x) = Held cs b m R x

pub join_each : (S U : Fam) (P : ℕ → Type 0) → ((c : ℕ) → T (S c) → P c) → ((c : ℕ) → T (U c) → P c) → (c : ℕ) → T (join S U c) → P c
join_each S U P f g c t = go (T-or (S c) (U c) t)
  where
    go : T (S c) ⊎ T (U c) → P c
    go (inl u) = f c u
    go (inr u) = g c u

module _ (cs : List ℕ) (b : ℕ) where
  pub keeps_counted : (m R : ℕ) (u : Option Sol) → Keeps cs b m R u → Counted u
  keeps_counted m R none h = tt
  keeps_counted m R (some x) h = h.counted

  -- the same key beside another count, or for fewer parts
  recounted : (n m R k : ℕ) (x : Sol) → n ≤ m → 1 ≤ k → Held cs b m R x → Held cs b n R (k, x.1)
  recounted n m R k x l p h = record {
    counted = p;
    members = h.members;
    coded = h.coded;
    nonzero = h.nonzero;
    within = h.within;
    below = h.below;
    light = omega (arith, h.light);
  }

  pub keeps_fewer : (n m R : ℕ) (u : Option Sol) → n ≤ m → Keeps cs b m R u → Keeps cs b n R u
  keeps_fewer n m R none l h = tt
  keeps_fewer n m R (some x) l h = recounted n m R x.0 x l h.counted h

  -- ---- sums

  pub keeps_plus : (m R : ℕ) (u v : Option Sol) → Keeps cs b m R u → Keeps cs b m R v → Keeps cs b m R (plus_sol u v)
  keeps_plus m R none v h k = k
  keeps_plus m R (some x) none h k = h
  keeps_plus m R (some x) (some y) h k = go (key_first x.1 y.1)
    where
      some-count : 1 ≤ x.0 + y.0
      some-count = omega (arith, h.counted)

      go : (first : Bool) → Held cs b m R (x.0 + y.0, cond first x.1 y.1)
      go true = recounted m m R (x.0 + y.0) x (le_refl m) some-count h
      go false = recounted m m R (x.0 + y.0) y (le_refl m) some-count k

  -- ---- products

  -- nothing but no taxa is inside c and inside what c leaves
  pub held_disj : (m n c R : ℕ) (x y : Sol) → T (inside c R) → (h : Held cs b m c x) (k : Held cs b n (R - c) y)
      → Disj h.members k.members
  held_disj m n c R x y i h k z s t =
      h.nonzero z s (zero_of_apart z (apart_of_inside c (R - c) z z (rest_apart c R i) (h.within z s) (k.within z t)))

  held_join : (m n c R : ℕ) (x y : Sol) → T (inside c R) → Held cs b m c x → Held cs b n (R - c) y
      → Held cs b (m + n) R (x.0 * y.0, (x.1.0 +ℤ y.1.0, x.1.1 + y.1.1))
  held_join m n c R x y i h k = record {
    counted = one-le-mul h.counted k.counted;
    members = join h.members k.members;
    coded = ap₂ (λ (p q : ℕ). p + q) h.coded k.coded ∙ sym (marks_join cs h.members k.members (held_disj m n c R x y i h k));
    nonzero = each (λ (z : ℕ). z ≢ 0) h.nonzero k.nonzero;
    within = each (λ (z : ℕ). T (inside z R)) (λ z s. inside_trans z c R (h.within z s) i)
        (λ z s. inside_trans z (R - c) R (k.within z s) (rest_inside c R i));
    below = each (λ (z : ℕ). z < b) h.below k.below;
    light = omega (arith, abs_sum-le x.1.0 y.1.0, h.light, k.light, size_part c R i);
  }
    where
      each : (P : ℕ → Type 0) → ((z : ℕ) → T (h.members z) → P z) → ((z : ℕ) → T (k.members z) → P z)
          → (z : ℕ) → T (join h.members k.members z) → P z
      each = join_each h.members k.members

  pub keeps_times : (m n c R : ℕ) (u v : Option Sol) → T (inside c R) → Keeps cs b m c u → Keeps cs b n (R - c) v
      → Keeps cs b (m + n) R (times_sol u v)
  keeps_times m n c R none v i h k = tt
  keeps_times m n c R (some x) none i h k = tt
  keeps_times m n c R (some x) (some y) i h k = held_join m n c R x y i h k

  held_unit : Held cs b 0 0 (1, (pos 0, 0))
  held_unit = record {
    counted = le_refl 1;
    members = empty;
    coded = sym (marks-none cs empty (λ c m t. t));
    nonzero = λ c t. absurd t;
    within = λ c t. absurd t;
    below = λ c t. absurd t;
    light = omega arith;
  }

  -- ---- sets of parts, in any kind of result that has a count with a key

  module _ {A : Type 0} (k : Kind A) (f : A → Option Sol) (bit : ℕ → ℕ) (hom : Hom k (sol_kind bit) f) where
    pub prod_keeps : (τ : List (Entry A)) → ((e : Entry A) → Mem e τ → Keeps cs b 1 (cl e) (f e.val)) → T (all_apart (map cl τ))
        → Keeps cs b (length τ) (union_of (map cl τ)) (f (prod_k k τ))
    prod_keeps [] g a = rw hom.unit held_unit
    prod_keeps (e ∷ τ) g a =
        let q = T_and (every (λ (x : ℕ). apart (cl e) x) (map cl τ)) (all_apart (map cl τ)) a in
        let R = union_of (map cl τ) in
        let rest = rest_union (cl e) R (apart-union_of (cl e) (map cl τ) q.0) in
        rw (hom.times e.val (prod_k k τ))
        (subst (λ (n : ℕ). Keeps cs b n (bit_or (cl e) R) (times_sol (f e.val) (f (prod_k k τ)))) (one-add (length τ))
        (keeps_times 1 (length τ) (cl e) (bit_or (cl e) R) (f e.val) (f (prod_k k τ)) (inside-union_l (cl e) R)
        (g e (here refl)) (rw rest (prod_keeps τ (λ x m. g x (there m)) q.1))))

    -- each set is of m parts or more, apart, and makes up R
    pub sum_keeps : (m R : ℕ) (τs : List (List (Entry A)))
        → ((τ : List (Entry A)) → Mem τ τs → (m ≤ length τ) × T (all_apart (map cl τ)) × (union_of (map cl τ) ≡ R))
        → ((τ : List (Entry A)) → Mem τ τs → (e : Entry A) → Mem e τ → Keeps cs b 1 (cl e) (f e.val))
        → Keeps cs b m R (f (over_tuples k τs))
    sum_keeps m R [] makes g = rw hom.none tt
    sum_keeps m R (τ ∷ τs) makes g =
        let q = makes τ (here refl) in
        rw (hom.plus (prod_k k τ) (over_tuples k τs)) (keeps_plus m R (f (prod_k k τ)) (f (over_tuples k τs))
        (keeps_fewer m (length τ) R (f (prod_k k τ)) q.0
        (subst (λ (x : ℕ). Keeps cs b (length τ) x (f (prod_k k τ))) q.2 (prod_keeps τ (g τ (here refl)) q.1)))
        (sum_keeps m R τs (λ σ i. makes σ (there i)) (λ σ i. g σ (there i))))

  -- ---- parts of the search

  pub record Part (e : Entry Res) : Type 0 where
    pub one : e.val.0 ≡ 1
    pub keeps : Keeps cs b 1 (cl e) e.val.1

pub prod_one : (τ : List (Entry Res)) → ((e : Entry Res) → Mem e τ → e.val.0 ≡ 1) → (prod_k sum_kind τ).0 ≡ 1
prod_one [] f = refl
prod_one (e ∷ τ) f = ap₂ (λ (p q : ℕ). p * q) (f e (here refl)) (prod_one τ (λ x m. f x (there m)))

pub sum-count : (τs : List (List (Entry Res))) → ((τ : List (Entry Res)) → Mem τ τs → (e : Entry Res) → Mem e τ → e.val.0 ≡ 1)
    → (over_tuples sum_kind τs).0 ≡ length τs
sum-count [] f = refl
sum-count (τ ∷ τs) f = omega (arith, prod_one τ (f τ (here refl)), sum-count τs (λ x m. f x (there m)))
