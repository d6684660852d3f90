-- The numbers of a range, gone through from its end down.
--     from_end a n            n numbers from a on, the last of them first
--     steps_down              how such a range moves on
--     YieldsList-from_end     it gives these numbers
--     all→, →all              what holds of all of them is what holds of each
-- Assumes nothing.
use mathlib.Core.Path.{◌≡◌, refl, sym, ap, ap₂, ◌∙◌, subst}
use mathlib.Core.Bool.{Bool, ◌&&◌}
use mathlib.Core.List.{List, [], ◌∷◌}
use Prim.Native.Nat.{ℕ, suc, ◌+◌, ◌-◌, ◌≤◌, ◌<◌}
use native.Mathlib.Omega.{arith}
use lib.Dec.{T}
use lib.ListN.{length}
use Rattle.std.specs.List.{list_all}
use Rattle.std.specs.Range.{range_steps_back}
use Rattle.std.specs.Iterator.Adapters.{rev_source, rev_steps}
use Rattle.std.specs.declared.iter.Rev.{Rev}
use Rattle.std.specs.declared.ops.Range.{Range}
use Rattle.std.specs.declared.option.Option.{Option}
use Rattle.std.proofs.lemmas.Iterator.{YieldsList}
use Rattle.std.proofs.lemmas.Iterator.Consumers.{YieldsList-from_shown}
use Rattle.laws.specs.Lists.{every}
use Rattle.laws.specs.Orders.{down_to}
use Rattle.laws.proofs.Down.{every→down, down→every}

-- n numbers from a on, the last of them first
abbrev pub from_end : ℕ → ℕ → List ℕ
from_end a n = down_to (λ (j : ℕ). a + j) n

-- how a range that is gone through from its end moves on
abbrev pub steps_down : Rev (Range ℕ) → Option ℕ → Rev (Range ℕ) → Type 0
steps_down = rev_steps (range_steps_back (λ (x y : ℕ). y - x) (λ (x y : ℕ). y ≡ x + 1))

pub YieldsList-from_end : {s : Rev (Range ℕ)} (a b n : ℕ) → rev_source s ≡ record { start = a; end = b } → b - a ≡ n
    → YieldsList steps_down (λ x. x) s (from_end a n)
YieldsList-from_end {s} a b n e f =
    subst (λ (p : ℕ × ℕ). YieldsList steps_down (λ x. x) s (from_end p.0 p.1))
    (ap (λ (r : Range ℕ). (r.start, r.end - r.start)) e ∙ ap (λ (m : ℕ). (a, m)) f)
    (YieldsList-from_shown steps_down (λ x. x) (λ u. from_end (rev_source u).start ((rev_source u).end - (rev_source u).start))
    (λ u v p. ap (λ (n : ℕ). length (from_end (rev_source u).start n)) p.1.0)
    (λ u x v p.
    let n = (rev_source v).end - (rev_source v).start in
    let more : (rev_source u).end - (rev_source u).start ≡ suc n = omega (arith, p.0, p.1.0, p.1.2) in
    let last : (rev_source u).start + n ≡ x = omega (arith, p.0, p.1.0, p.1.1, p.1.2) in
    ap (from_end (rev_source u).start) more ∙ ap₂ (λ (y : ℕ) (l : List ℕ). y ∷ l) last (ap (λ (k : ℕ). from_end k n) (sym p.0)))
    s)

-- the iterator's word for what holds of all is that of `laws`
all_is : (p : ℕ → Bool) (l : List ℕ) → list_all p l ≡ every p l
all_is p [] = refl
all_is p (x ∷ xs) = ap (λ (b : Bool). p x && b) (all_is p xs)

-- what holds of each of these numbers
module _ (p : ℕ → Bool) (a n : ℕ) where
  pub all→ : T (list_all p (from_end a n)) → (i : ℕ) → a ≤ i → i < a + n → T (p i)
  all→ h i l m =
      let e : a + (i - a) ≡ i = omega arith in
      rw e at (every→down p (λ (j : ℕ). a + j) n (rw (all_is p (from_end a n)) at h) (i - a) (omega arith))

  pub →all : ((i : ℕ) → a ≤ i → i < a + n → T (p i)) → T (list_all p (from_end a n))
  →all f = rw (all_is p (from_end a n)) (down→every p (λ (j : ℕ). a + j) n (λ j l. f (a + j) (omega arith) (omega arith)))
