-- Laws of tests: a test is a Bool, and `T b` says that it passes.
--     T_and, and_T, T-or, or_l, or_r     conjunction and disjunction, out of and into
--     imp→, →imp        a second test that passes where the first does
--     else→, →else      a second test that passes where the first doesn't
--     T-dec             a test passes or doesn't
--     T_true, T_false   a test that passes, or can't, as an equation
--     true_T            and back
--     passed, failed    what a call of the code told, a its answer and b its promise
--     cond_true, cond_false     what is chosen by such a test
--     T-of-not          a test passes where it can't fail
--     bool_ext          tests that pass together are equal
--     or_split          a test is itself with a second test, or without it
--     eq→eqb            equal numbers pass the test of equality
--     neq→, →neq        different numbers, out of the test and into it
-- Assumes nothing.
use mathlib.Core.Path.{◌≡◌, refl, sym, ◌∙◌, subst}
use mathlib.Core.Logic.{◌⊎◌, inl, inr, ◌≢◌}
use mathlib.Core.Bool.{Bool, true, false, not, cond, ◌&&◌, ◌||◌}
use Prim.Native.Nat.{ℕ}
use borrow.Author.Tests.{not-true, not-false}
use lib.Dec.{T, eqb, eqb→eq, eqb_refl, T_not, not_T}

pub T_and : (a b : Bool) → T (a && b) → T a × T b
T_and true b h = (tt, h)
T_and false b h = absurd h

pub and_T : (a b : Bool) → T a → T b → T (a && b)
and_T true b h k = k
and_T false b h k = absurd h

pub T-or : (a b : Bool) → T (a || b) → T a ⊎ T b
T-or true b h = inl tt
T-or false b h = inr h

pub or_l : (a b : Bool) → T a → T (a || b)
or_l true b h = tt
or_l false b h = absurd h

pub or_r : (a b : Bool) → T b → T (a || b)
or_r true b h = tt
or_r false b h = h

pub imp→ : (a b : Bool) → T (not a || b) → T a → T b
imp→ true b h k = h
imp→ false b h k = absurd k

pub →imp : (a b : Bool) → (T a → T b) → T (not a || b)
→imp true b f = f tt
→imp false b f = tt

pub else→ : (a b : Bool) → T (a || b) → (T a → ⊥) → T b
else→ true b h n = absurd (n tt)
else→ false b h n = h

pub →else : (a b : Bool) → ((T a → ⊥) → T b) → T (a || b)
→else true b f = tt
→else false b f = f (λ h. h)

pub T-dec : (a : Bool) → T a ⊎ (T a → ⊥)
T-dec true = inl tt
T-dec false = inr (λ h. h)

pub bool_ext : (a b : Bool) → (T a → T b) → (T b → T a) → a ≡ b
bool_ext true true f g = refl
bool_ext true false f g = absurd (f tt)
bool_ext false true f g = absurd (g tt)
bool_ext false false f g = refl

pub or_split : (a b : Bool) → (a && b || a && not b) ≡ a
or_split true true = refl
or_split true false = refl
or_split false b = refl

pub eq→eqb : (m n : ℕ) → m ≡ n → T (eqb m n)
eq→eqb m n e = subst (λ (x : ℕ). T (eqb m x)) e (eqb_refl m)

pub neq→ : (m n : ℕ) → T (not (eqb m n)) → m ≢ n
neq→ m n h e = T_not (eqb m n) h (eq→eqb m n e)

pub →neq : (m n : ℕ) → m ≢ n → T (not (eqb m n))
→neq m n f = not_T (eqb m n) (λ h. f (eqb→eq m n h))

pub T_true : (b : Bool) → T b → b ≡ true
T_true true h = refl
T_true false h = absurd h

pub T_false : (b : Bool) → (T b → ⊥) → b ≡ false
T_false true h = absurd (h tt)
T_false false h = refl

pub T-of-not : (b : Bool) → (T (not b) → ⊥) → T b
T-of-not true h = tt
T-of-not false h = h tt

pub cond_true : {A : Type 0} (b : Bool) (x y : A) → T b → cond b x y ≡ x
cond_true true x y h = refl
cond_true false x y h = absurd h

pub cond_false : {A : Type 0} (b : Bool) (x y : A) → (T b → ⊥) → cond b x y ≡ y
cond_false true x y h = absurd (h tt)
cond_false false x y h = refl

pub true_T : {b : Bool} → b ≡ true → T b
true_T e = subst T (sym e) tt

pub passed : {a b : Bool} → a ≡ b → not a ≡ false → b ≡ true
passed {a} e h = sym e ∙ not-false a h

pub failed : {a b : Bool} → a ≡ b → not a ≡ true → b ≡ false
failed {a} e h = sym e ∙ not-true a h
