-- The first heaviest has the first key, and adding the same key on both sides keeps the order: so counts with keys are a semiring with no
-- side conditions.
--     top-cases, top_self, top_comm, top_assoc     the first of two
--     AtLeast x y                  y is not before x
--     least_trans, least_antisym, least-top_l, least-top_r, least_of_first     an order, in which the first of two is at least both
--     join_top, join_least  keys added, and that this keeps the order
--     count_lawful, sol_lawful     counts, and counts with keys, are semirings
-- Assumes nothing.
use mathlib.Core.Path.{◌≡◌, refl, sym, ap, ap₂, ◌∙◌, subst, subst₂}
use mathlib.Core.Logic.{◌⊎◌, inl, inr}
use mathlib.Core.Bool.{Bool, true, false, cond}
use mathlib.Core.Option.{Option, none, some}
use Prim.Native.Nat.{ℕ, ◌+◌, ◌*◌}
use native.Mathlib.Nat.{mul-add, mul-one, mul-zero}
use native.Mathlib.Omega.{arith}
use lib.Dec.{T}
use lib.IntN.{ℤ, pos, ◌+ℤ◌, +ℤ_idr, +ℤ_comm}
use lib.Signed.{lt_z}
use Rattle.laws.proofs.Tests.{cond_true, cond_false}
use Rattle.laws.proofs.Integers.{lt_z_add}
use Rattle.trees.specs.Beneath.{Key, key_first}
use Rattle.trees.specs.Solution.{top, join_k, count_kind, Sol, plus_sol, times_sol, sol_kind}
use Rattle.trees.proofs.Formula.Kind.{Lawful}
use Rattle.trees.proofs.Ties.KeyOrder.{Before, heavier, level, before→, →before, key_irrefl, key_trans}
use Rattle.trees.proofs.Ties.KeyOrder.{Which, ahead, same, behind, which}

-- ---- the first of two

top_l : (x y : Key) → T (key_first x y) → top x y ≡ x
top_l x y h = cond_true (key_first x y) x y h

top_r : (x y : Key) → T (key_first y x) → top x y ≡ y
top_r x y h = cond_false (key_first x y) x y (λ t. key_irrefl x (key_trans x y x t h))

pub top-cases : (x y : Key) → (top x y ≡ x) ⊎ (top x y ≡ y)
top-cases x y = go (key_first x y)
  where
    go : (b : Bool) → (cond b x y ≡ x) ⊎ (cond b x y ≡ y)
    go true = inl refl
    go false = inr refl

pub top_self : (x : Key) → top x x ≡ x
top_self x = go (key_first x x)
  where
    go : (b : Bool) → cond b x x ≡ x
    go true = refl
    go false = refl

pub top_comm : (x y : Key) → top x y ≡ top y x
top_comm x y = go (which x y)
  where
    go : Which x y → top x y ≡ top y x
    go (ahead h) = top_l x y h ∙ sym (top_r y x h)
    go (same e) = ap₂ top e (sym e)
    go (behind h) = top_r x y h ∙ sym (top_l y x h)

top_again : (x z : Key) → top x z ≡ top x (top x z)
top_again x z = go (which x z)
  where
    go : Which x z → top x z ≡ top x (top x z)
    go (ahead h) = top_l x z h ∙ sym (ap (top x) (top_l x z h) ∙ top_self x)
    go (same e) = subst (λ (w : Key). top x w ≡ top x (top x w)) e (sym (ap (top x) (top_self x)))
    go (behind h) = top_r x z h ∙ sym (ap (top x) (top_r x z h) ∙ top_r x z h)

top_last : (x y : Key) → top (top x y) y ≡ top x y
top_last x y = go (which x y)
  where
    go : Which x y → top (top x y) y ≡ top x y
    go (ahead h) = ap (λ (w : Key). top w y) (top_l x y h)
    go (same e) = subst (λ (w : Key). top (top x w) w ≡ top x w) e (ap (λ (w : Key). top w x) (top_self x))
    go (behind h) = ap (λ (w : Key). top w y) (top_r x y h) ∙ top_self y ∙ sym (top_r x y h)

pub top_assoc : (x y z : Key) → top (top x y) z ≡ top x (top y z)
top_assoc x y z = go (which x y) (which y z)
  where
    tied : y ≡ z → top (top x y) z ≡ top x (top y z)
    tied e = subst (λ (w : Key). top (top x y) w ≡ top x (top y w)) e (top_last x y ∙ sym (ap (top x) (top_self y)))

    go : Which x y → Which y z → top (top x y) z ≡ top x (top y z)
    go (same e) k = subst (λ (w : Key). top (top x w) z ≡ top x (top w z)) e (ap (λ (w : Key). top w z) (top_self x) ∙ top_again x z)
    go (ahead h) (ahead k) =
        ap (λ (w : Key). top w z) (top_l x y h) ∙ top_l x z (key_trans x y z h k) ∙ sym (ap (top x) (top_l y z k) ∙ top_l x y h)
    go (ahead h) (same e) = tied e
    go (behind h) (same e) = tied e
    go (ahead h) (behind k) = ap (λ (w : Key). top w z) (top_l x y h) ∙ sym (ap (top x) (top_r y z k))
    go (behind h) (ahead k) = ap (λ (w : Key). top w z) (top_r x y h) ∙ top_l y z k ∙ sym (ap (top x) (top_l y z k) ∙ top_r x y h)
    go (behind h) (behind k) =
        ap (λ (w : Key). top w z) (top_r x y h) ∙ top_r y z k ∙ sym (ap (top x) (top_r y z k) ∙ top_r x z (key_trans z y x k h))

-- ---- no key is before x

abbrev pub AtLeast : Key → Key → Type 0
AtLeast x y = top x y ≡ x

pub least_trans : (x y z : Key) → AtLeast x y → AtLeast y z → AtLeast x z
least_trans x y z h k = ap (λ (a : Key). top a z) (sym h) ∙ top_assoc x y z ∙ ap (top x) k ∙ h

pub least_antisym : (x y : Key) → AtLeast x y → AtLeast y x → x ≡ y
least_antisym x y h k = sym h ∙ top_comm x y ∙ k

pub least-top_l : (x y : Key) → AtLeast (top x y) x
least-top_l x y = top_comm (top x y) x ∙ sym (top_assoc x x y) ∙ ap (λ (a : Key). top a y) (top_self x)

pub least-top_r : (x y : Key) → AtLeast (top x y) y
least-top_r x y = top_assoc x y y ∙ ap (top x) (top_self y)

pub least_of_first : (x y : Key) → T (key_first x y) → AtLeast x y
least_of_first x y h = top_l x y h

-- ---- keys added

first_join : (x y z : Key) → T (key_first y z) → T (key_first (join_k x y) (join_k x z))
first_join x y z h = →before (join_k x y) (join_k x z) (go (before→ y z h))
  where
    go : Before y z → Before (join_k x y) (join_k x z)
    go (heavier l) =
        heavier (subst₂ (λ (a b : ℤ). T (lt_z a b)) (+ℤ_comm z.0 x.0) (+ℤ_comm y.0 x.0) (lt_z_add x.0 z.0 y.0 l))
    go (level e l) = level (ap (λ (a : ℤ). x.0 +ℤ a) e) (omega arith)

pub join_top : (x y z : Key) → join_k x (top y z) ≡ top (join_k x y) (join_k x z)
join_top x y z = go (which y z)
  where
    go : Which y z → join_k x (top y z) ≡ top (join_k x y) (join_k x z)
    go (ahead h) = ap (join_k x) (top_l y z h) ∙ sym (top_l (join_k x y) (join_k x z) (first_join x y z h))
    go (same e) =
        subst (λ (w : Key). join_k x (top y w) ≡ top (join_k x y) (join_k x w)) e (ap (join_k x) (top_self y) ∙ sym (top_self (join_k x y)))
    go (behind h) = ap (join_k x) (top_r y z h) ∙ sym (top_r (join_k x y) (join_k x z) (first_join x z y h))

join_comm : (x y : Key) → join_k x y ≡ join_k y x
join_comm x y = λ i. (+ℤ_comm x.0 y.0 i, (let q : x.1 + y.1 ≡ y.1 + x.1 = omega arith in q) i)

pub join_least : (x y a b : Key) → AtLeast x a → AtLeast y b → AtLeast (join_k x y) (join_k a b)
join_least x y a b h k =
    least_trans (join_k x y) (join_k x b) (join_k a b) (sym (join_top x y b) ∙ ap (join_k x) k)
    (subst₂ AtLeast (join_comm b x) (join_comm b a) (sym (join_top b x a) ∙ ap (join_k b) h))

-- ---- counts, and counts with keys

pub count_lawful : Lawful count_kind
count_lawful = record {
  plus_none = λ x. omega arith;
  plus_assoc = λ x y z. omega arith;
  plus_comm = λ x y. omega arith;
  times_none = mul-zero;
  times-unit = mul-one;
  times-plus = mul-add;
}

plus_none : (x : Option Sol) → plus_sol x none ≡ x
plus_none none = refl
plus_none (some x) = refl

plus_assoc : (x y z : Option Sol) → plus_sol (plus_sol x y) z ≡ plus_sol x (plus_sol y z)
plus_assoc none y z = refl
plus_assoc (some x) none z = refl
plus_assoc (some x) (some y) none = refl
plus_assoc (some x) (some y) (some z) =
    λ i. some ((let q : x.0 + y.0 + z.0 ≡ x.0 + (y.0 + z.0) = omega arith in q) i, top_assoc x.1 y.1 z.1 i)

plus_comm : (x y : Option Sol) → plus_sol x y ≡ plus_sol y x
plus_comm none none = refl
plus_comm none (some y) = refl
plus_comm (some x) none = refl
plus_comm (some x) (some y) = λ i. some ((let q : x.0 + y.0 ≡ y.0 + x.0 = omega arith in q) i, top_comm x.1 y.1 i)

times_none : (x : Option Sol) → times_sol x none ≡ none
times_none none = refl
times_none (some x) = refl

times-unit : (x : Option Sol) → times_sol x (some (1, (pos 0, 0))) ≡ x
times-unit none = refl
times-unit (some x) = λ i. some (mul-one x.0 i, (+ℤ_idr x.1.0 i, (let q : x.1.1 + 0 ≡ x.1.1 = omega arith in q) i))

times-plus : (x y z : Option Sol) → times_sol x (plus_sol y z) ≡ plus_sol (times_sol x y) (times_sol x z)
times-plus none y z = refl
times-plus (some x) none z = refl
times-plus (some x) (some y) none = refl
times-plus (some x) (some y) (some z) = λ i. some (mul-add x.0 y.0 z.0 i, join_top x.1 y.1 z.1 i)

module _ (bit : ℕ → ℕ) where
  pub sol_lawful : Lawful (sol_kind bit)
  sol_lawful = record {
    plus_none = plus_none;
    plus_assoc = plus_assoc;
    plus_comm = plus_comm;
    times_none = times_none;
    times-unit = times-unit;
    times-plus = times-plus;
  }
