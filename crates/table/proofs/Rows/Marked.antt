-- Marks as numbers: the laws of `has_mark`, `every_marked` and `is_marked_in` of `kept`.
--     marked-mem                       a marked cluster is the cluster of a row
--     every_marked→, →every_marked     what holds of every marked row's cluster
--     marks-marked                     the marks of the marked clusters are the number's low digits, one for each row
--     marks_of-marked                   so marks below as many digits are the marks of the clusters that they mark
-- Assumes nothing.
use mathlib.Core.Path.{◌≡◌, refl, sym, ap, ap₂, ◌∙◌}
use mathlib.Core.Logic.{◌⊎◌, inl, inr}
use mathlib.Core.Bool.{Bool, true, false, not, cond, ◌&&◌, ◌||◌}
use mathlib.Core.List.{List, [], ◌∷◌}
use mathlib.Core.List.Memᴰ.{head as here}
use mathlib.Core.List.Memᴰ.{tail as there}
use mathlib.Core.List.{Memᴰ as Mem}
use Prim.Native.Nat.{ℕ, zero, suc, ◌+◌, ◌*◌, ◌/◌, ◌%◌, ◌^◌, ◌<◌}
use native.Mathlib.Nat.{mod-lt, mod-one, mod-eq_of_lt, one-mul, zero-mul}
use native.Mathlib.Numerals.{one-add}
use native.Mathlib.Omega.{arith}
use lib.Dec.{T, eqb, eqb→eq, eqb_refl, T_not, not_T, lit<}
use lib.ListN.{length}
use lib.Pow.{mod-pow-add}
use Rattle.laws.specs.Orders.{Falling}
use Rattle.laws.proofs.Tests.{T_and, and_T, T-or, or_l, or_r, T-dec, T_true, T_false}
use Rattle.trees.specs.Result.{marks_in}
use Rattle.trees.proofs.Ties.Marks.{marks_ext}
use Rattle.kept.specs.Marks.{has_mark, every_marked, is_marked_in}

pub marked-mem : (cs : List ℕ) (m c : ℕ) → T (is_marked_in cs m c) → Mem c cs
marked-mem [] m c h = elim h [ ]
marked-mem (x ∷ cs) m c h = go (T-or (eqb x c && has_mark m (length cs)) (is_marked_in cs m c) h) (marked-mem cs m c)
  where
    go : T (eqb x c && has_mark m (length cs)) ⊎ T (is_marked_in cs m c) → (T (is_marked_in cs m c) → Mem c cs) → Mem c (x ∷ cs)
    go (inl t) ih = here (sym (eqb→eq x c (T_and (eqb x c) (has_mark m (length cs)) t).0))
    go (inr t) ih = there (ih t)

-- ---- every marked row

pub every_marked→ : (cs : List ℕ) (m : ℕ) (p : ℕ → Bool) → T (every_marked cs m p) → (c : ℕ) → T (is_marked_in cs m c) → T (p c)
every_marked→ [] m p h c t = elim t [ ]
every_marked→ (x ∷ cs) m p h c t =
    let q = T_and (not (has_mark m (length cs)) || p x) (every_marked cs m p) h in
    go q.0 (T-or (eqb x c && has_mark m (length cs)) (is_marked_in cs m c) t) (every_marked→ cs m p q.1 c)
  where
    own : T (has_mark m (length cs)) → T (not (has_mark m (length cs))) ⊎ T (p x) → T (p x)
    own k (inl n) = absurd (T_not (has_mark m (length cs)) n k)
    own k (inr u) = u

    go : T (not (has_mark m (length cs)) || p x) → T (eqb x c && has_mark m (length cs)) ⊎ T (is_marked_in cs m c)
        → (T (is_marked_in cs m c) → T (p c)) → T (p c)
    go f (inl u) ih =
        let k = T_and (eqb x c) (has_mark m (length cs)) u in
        rw (← eqb→eq x c k.0) (own k.1 (T-or (not (has_mark m (length cs))) (p x) f))
    go f (inr u) ih = ih u

pub →every_marked : (cs : List ℕ) (m : ℕ) (p : ℕ → Bool) → ((c : ℕ) → T (is_marked_in cs m c) → T (p c)) → T (every_marked cs m p)
→every_marked [] m p f = tt
→every_marked (x ∷ cs) m p f =
    and_T (not (has_mark m (length cs)) || p x) (every_marked cs m p) (go (T-dec (has_mark m (length cs))))
    (→every_marked cs m p (λ c t. f c (or_r (eqb x c && has_mark m (length cs)) (is_marked_in cs m c) t)))
  where
    go : T (has_mark m (length cs)) ⊎ (T (has_mark m (length cs)) → ⊥) → T (not (has_mark m (length cs)) || p x)
    go (inl t) =
        or_r (not (has_mark m (length cs))) (p x)
        (f x (or_l (eqb x x && has_mark m (length cs)) (is_marked_in cs m x) (and_T (eqb x x) (has_mark m (length cs)) (eqb_refl x) t)))
    go (inr n) = or_l (not (has_mark m (length cs))) (p x) (not_T (has_mark m (length cs)) n)

-- ---- a number is the marks of its marked clusters

-- digit k in front of the lower ones
mod_digit : (m k : ℕ) → m % 2 ^ suc k ≡ cond (has_mark m k) (2 ^ k + m % 2 ^ k) (m % 2 ^ k)
mod_digit m k = ap (λ (n : ℕ). m % 2 ^ n) (sym (one-add k)) ∙ mod-pow-add m 1 k ∙ go (m / 2 ^ k % 2) (mod-lt (m / 2 ^ k) (lit< tt))
  where
    go : (n : ℕ) → n < 2 → n * 2 ^ k + m % 2 ^ k ≡ cond (eqb n 1) (2 ^ k + m % 2 ^ k) (m % 2 ^ k)
    go zero h = omega (arith, zero-mul (2 ^ k))
    go (suc zero) h = omega (arith, one-mul (2 ^ k))
    go (suc (suc n)) h = absurd (omega arith)

module _ (c : ℕ) (cs : List ℕ) (m : ℕ) (f : Falling (c ∷ cs)) where
  -- the first cluster is marked by its own digit
  marked-first : is_marked_in (c ∷ cs) m c ≡ has_mark m (length cs)
  marked-first =
      ap₂ (λ (a b : Bool). a && has_mark m (length cs) || b) (T_true (eqb c c) (eqb_refl c))
      (T_false (is_marked_in cs m c) (λ t. let l = f.0 c (marked-mem cs m c t) in omega arith))
      ∙ go (has_mark m (length cs))
    where
      go : (b : Bool) → (b || false) ≡ b
      go true = refl
      go false = refl

  -- and the others by theirs
  marked_rest : (x : ℕ) → Mem x cs → is_marked_in (c ∷ cs) m x ≡ is_marked_in cs m x
  marked_rest x k =
      ap (λ (b : Bool). b && has_mark m (length cs) || is_marked_in cs m x)
      (T_false (eqb c x) (λ t. let l = f.0 x k in let e = eqb→eq c x t in omega arith))

pub marks-marked : (cs : List ℕ) (m : ℕ) → Falling cs → marks_in cs (is_marked_in cs m) ≡ m % 2 ^ length cs
marks-marked [] m f = sym (mod-one m)
marks-marked (c ∷ cs) m f =
    ap₂ (λ (b : Bool) (n : ℕ). cond b (2 ^ length cs + n) n) (marked-first c cs m f)
    (marks_ext cs (is_marked_in (c ∷ cs) m) (is_marked_in cs m) (marked_rest c cs m f) ∙ marks-marked cs m f.1)
    ∙ sym (mod_digit m (length cs))

pub marks_of-marked : (cs : List ℕ) (m : ℕ) → Falling cs → m < 2 ^ length cs → m ≡ marks_in cs (is_marked_in cs m)
marks_of-marked cs m f h = sym (marks-marked cs m f ∙ mod-eq_of_lt h)
