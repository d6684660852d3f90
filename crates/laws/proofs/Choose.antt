-- How many sublists have a given number of elements: binomial numbers by Pascal's rule.
--     sublists-count         the sublists of k elements out of n are `choose n k`
--     choose_mono, few_mono  more elements, or a larger m, no fewer sublists
--     Sized p m              the test p passes only sublists of 2 to m elements
--     few-le                 such a test passes at most `few` of them
--     few-le_other           of one element fewer where no such sublist has that element
--     few_four, few_four_lem      few n 4, in steps that compute
-- Assumes nothing.
use mathlib.Core.Path.{◌≡◌, refl, sym, ap, ap₂, ◌∙◌, subst}
use mathlib.Core.Bool.{Bool, not, ◌&&◌}
use mathlib.Core.List.{List, [], ◌∷◌, Memᴰ as Mem}
use Prim.Native.Nat.{ℕ, zero, suc, ◌+◌, ◌-◌, ◌≤◌}
use native.Mathlib.Decide.{ℕ_discrete}
use native.Mathlib.Nat.{le_refl, le_trans}
use native.Mathlib.Omega.{arith}
use lib.Arith.{le-zero}
use lib.Dec.{T, eqb, eqb-zero-suc, eqb-suc-zero, eqb-suc-suc}
use lib.ListN.{length, length-append, length-map}
use Rattle.laws.specs.Lists.{keep, every, sublists}
use Rattle.laws.specs.Widths.{choose, few}
use Rattle.laws.proofs.Tests.{T_and, and_T, bool_ext, neq→}
use Rattle.laws.proofs.Keep.{keep-none, keep_ext, every→, →every}
use Rattle.laws.proofs.KeepCount.{length-keep_split, length-keep-and-le, length-keep-lt}
use Rattle.laws.proofs.Sublists.{keep-sublists-cons, sublists-drop}

-- ---- more elements, more sublists

mono_of_step : (f : ℕ → ℕ) → ((n : ℕ) → f n ≤ f (suc n)) → (n m : ℕ) → n ≤ m → f n ≤ f m
mono_of_step f g n zero h = rw (le-zero h) (le_refl (f 0))
mono_of_step f g n (suc m) h = go (ℕ_discrete n (suc m)) (λ k. mono_of_step f g n m k)
  where
    go : Dec (n ≡ suc m) → (n ≤ m → f n ≤ f m) → f n ≤ f (suc m)
    go (yes e) r = rw e (le_refl (f (suc m)))
    go (no f) r = le_trans (r (omega arith)) (g m)

choose_step : (k n : ℕ) → choose n k ≤ choose (suc n) k
unfolding choose
choose_step zero n = le_refl 1
choose_step (suc k) n = omega arith

pub choose_mono : (k n m : ℕ) → n ≤ m → choose n k ≤ choose m k
choose_mono k n m h = mono_of_step (λ (i : ℕ). choose i k) (choose_step k) n m h

few_mono_l : (m n n' : ℕ) → n ≤ n' → few n m ≤ few n' m
few_mono_l zero n n' h = le_refl 0
few_mono_l (suc zero) n n' h = le_refl 0
few_mono_l (suc (suc m)) n n' h = omega (arith, choose_mono (suc (suc m)) n n' h, few_mono_l (suc m) n n' h)

few_step : (n m : ℕ) → few n m ≤ few n (suc m)
few_step n zero = le_refl 0
few_step n (suc m) = omega arith

pub few_mono : (n n' m m' : ℕ) → n ≤ n' → m ≤ m' → few n m ≤ few n' m'
few_mono n n' m m' h k = le_trans (few_mono_l m n n' h) (mono_of_step (few n') (few_step n') m m' k)

-- ---- in numbers, up to four elements: Pascal's rule on three numbers at a time

abbrev row : ℕ → ℕ × ℕ × ℕ
row zero = (0, 0, 0)
row (suc n) = let r = row n in (n + r.0, r.0 + r.1, r.1 + r.2)

abbrev pub few_four : ℕ → ℕ
few_four n = let r = row n in r.2 + (r.1 + r.0)

choose_one : (n : ℕ) → choose n 1 ≡ n
unfolding choose
choose_one zero = refl
choose_one (suc n) = omega (arith, choose_one n)

row_is : (n : ℕ) → ((row n).0 ≡ choose n 2) × ((row n).1 ≡ choose n 3) × ((row n).2 ≡ choose n 4)
unfolding choose
row_is zero = (refl, refl, refl)
row_is (suc n) = let r = row_is n in (ap₂ ◌+◌ (sym (choose_one n)) r.0, ap₂ ◌+◌ r.0 r.1, ap₂ ◌+◌ r.1 r.2)

pub few_four_lem : (n : ℕ) → few n 4 ≡ few_four n
few_four_lem n = let r = row_is n in omega arith

-- ---- the number of sublists

module _ {A : Type 0} where
  count-cons : (p : List A → Bool) (x : A) (xs : List A)
      → length (keep p (sublists (x ∷ xs))) ≡ length (keep p (sublists xs)) + length (keep (λ (s : List A). p (x ∷ s)) (sublists xs))
  count-cons p x xs = simp (keep-sublists-cons, length-append, length-map)

  pub sublists-count : (l : List A) (k : ℕ) → length (keep (λ (s : List A). eqb (length s) k) (sublists l)) ≡ choose (length l) k
  unfolding choose
  sublists-count [] zero = refl
  sublists-count [] (suc k) = rw (eqb-zero-suc k)
  sublists-count (x ∷ xs) zero =
      count-cons (λ (s : List A). eqb (length s) 0) x xs
      ∙ ap₂ (λ (m : ℕ) (l : List (List A)). m + length l) (sublists-count xs 0)
      (keep-none (λ (s : List A). eqb (suc (length s)) 0) (sublists xs) (λ s _ h. subst T (eqb-suc-zero (length s)) h))
  sublists-count (x ∷ xs) (suc k) =
      let longer : List A → Bool = λ s. eqb (suc (length s)) (suc k) in
      let e = keep_ext longer (λ (s : List A). eqb (length s) k) (sublists xs) (λ s _. eqb-suc-suc (length s) k) in
      omega (arith, count-cons (λ (s : List A). eqb (length s) (suc k)) x xs, ap length e, sublists-count xs (suc k), sublists-count xs k)

-- ---- at most so many pass a test

module _ {A : Type 0} where
  abbrev pub Sized : (List A → Bool) → ℕ → Type 0
  Sized p m = (s : List A) → T (p s) → (2 ≤ length s) × (length s ≤ m)

  pub few-le : (p : List A → Bool) (m : ℕ) → Sized p m → (l : List A) → length (keep p (sublists l)) ≤ few (length l) m
  few-le p zero f l = rw (keep-none p (sublists l) (λ s _ h. omega (arith, f s h))) (le_refl 0)
  few-le p (suc zero) f l = rw (keep-none p (sublists l) (λ s _ h. omega (arith, f s h))) (le_refl 0)
  few-le p (suc (suc m)) f l =
      let h = length-keep-and-le p full (sublists l) in
      omega (arith, length-keep_split p full (sublists l), sublists-count l (suc (suc m)), few-le rest (suc m) less l)
    where
      full : List A → Bool
      full s = eqb (length s) (suc (suc m))

      rest : List A → Bool
      rest s = p s && not (full s)

      less : Sized rest (suc m)
      less s h =
          let q = T_and (p s) (not (full s)) h in
          let k = f s q.0 in
          let n = neq→ (length s) (suc (suc m)) q.1 in
          (k.0, omega arith)

  -- x is in no sublist that passes: the test q, which x fails, passes what is in one
  pub few-le_other : (p : List A → Bool) (m : ℕ) → Sized p m → (q : A → Bool) (l : List A) (x : A) → Mem x l → (T (q x) → ⊥)
      → ((s : List A) → Mem s (sublists l) → T (p s) → (y : A) → Mem y s → T (q y)) → length (keep p (sublists l)) ≤ few (length l - 1) m
  few-le_other p m f q l x k n g =
      rw (same ∙ sublists-drop q both l (λ s h. every→ q s (T_and (p s) (every q s) h).1))
      (le_trans (few-le both m (λ s h. f s (T_and (p s) (every q s) h).0) (keep q l))
      (few_mono (length (keep q l)) (length l - 1) m m (omega (arith, length-keep-lt q l x k n)) (le_refl m)))
    where
      both : List A → Bool
      both s = p s && every q s

      same : keep p (sublists l) ≡ keep both (sublists l)
      same = keep_ext p both (sublists l)
          (λ s j. bool_ext (p s) (both s) (λ h. and_T (p s) (every q s) h (→every q s (g s j h))) (λ h. (T_and (p s) (every q s) h).0))
