-- The code's sums and products of tallies are those of the results that the tallies stand for.
--     is_larger_is, is_before_is          the high word first, then the low one: the order of sets, and of keys
--     tally_plus               the code's sum
--     Clear, tally_under       one more child, where the low words don't carry
-- Assumes nothing.
use mathlib.Core.Path.{◌≡◌, refl, sym, ap, ap₂, ◌∙◌}
use mathlib.Core.Logic.{◌≢◌}
use mathlib.Core.Bool.{Bool, true, false, not, cond, ◌&&◌, ◌||◌}
use mathlib.Core.Option.{Option, none, some}
use Prim.Native.Nat.{ℕ, ◌+◌, ◌*◌, ◌/◌, ◌%◌, ◌≤◌, ◌<◌}
use native.Mathlib.Decide.{ℕ_discrete}
use native.Mathlib.Nat.{one-mul, one-le-mul}
use native.Mathlib.Omega.{arith}
use lib.Dec.{ltb, ltb→lt, lt→ltb}
use lib.IntN.{ℤ, ◌+ℤ◌}
use lib.Signed.{lt_z}
use Rattle.laws.specs.Limits.{word_values}
use Rattle.laws.proofs.Tests.{bool_ext}
use Rattle.trees.specs.Result.{count_field, mark_field}
use Rattle.trees.specs.Beneath.{key_first}
use Rattle.trees.specs.Solution.{Sol, plus_sol, times_sol, Res}
use Rattle.trees.proofs.Counting.Capped.{true_count, Counted}
use Rattle.table.specs.declared.tally.Count.{Count}
use Rattle.table.specs.declared.tally.Tally.{Tally}
use Rattle.table.specs.Tally.{tally_with, tally_of}
use Rattle.table.specs.Columns.{sum_kind}
use Rattle.table.specs.Sums.{no_tally, exact_count, capped_sum, capped_product, is_larger, is_before, keeps_first}
use Rattle.table.specs.Sums.{with_tuples, with_count, plus_tally, under_tally}
use Rattle.table.proofs.Tallies.Tally.{capped_product-none_l, capped_product-none_r}
use Rattle.table.proofs.Tallies.Tally.{is_larger_high, is_larger-low}
use Rattle.table.proofs.Tallies.Tally.{is_before_by, keeps_first-none_r, keeps_first-none_l, keeps_first_both}
use Rattle.table.proofs.Tallies.Tally.{plus_tally-first, plus_tally_second, under_tally_dead, under_tally-live}
use Rattle.table.proofs.Tallies.Counts.{capped, capped_small, some-told, tally_told, tally_tuples, told-count}
use Rattle.table.proofs.Tallies.Counts.{capped_sum_is, capped_product_is}

-- ---- the order

pub is_larger_is : (a b : Tally) (m n : ℕ) → a.low ≡ m % word_values → a.high ≡ m / word_values
    → b.low ≡ n % word_values → b.high ≡ n / word_values → is_larger a b ≡ ltb n m
is_larger_is a b m n l h l' h' = go (ℕ_discrete a.high b.high)
  where
    go : Dec (a.high ≡ b.high) → is_larger a b ≡ ltb n m
    go (yes e) =
        is_larger_high a b e
        ∙ bool_ext (ltb b.low a.low) (ltb n m) (λ t. lt→ltb n m (omega (arith, ltb→lt b.low a.low t)))
        (λ t. lt→ltb b.low a.low (omega (arith, ltb→lt n m t)))
    go (no f) =
        is_larger-low a b f
        ∙ bool_ext (ltb b.high a.high) (ltb n m) (λ t. lt→ltb n m (omega (arith, ltb→lt b.high a.high t)))
        (λ t. lt→ltb b.high a.high (omega (arith, ltb→lt n m t)))

module _ (limit : ℕ) where
  pub is_before_is : (m n : ℕ) (x y : Sol) → is_before (tally_with limit m (some x)) (tally_with limit n (some y)) ≡ key_first x.1 y.1
  is_before_is m n x y =
      is_before_by (tally_with limit m (some x)) (tally_with limit n (some y))
      ∙ ap (λ (b : Bool). cond (lt_z y.1.0 x.1.0) true (cond (lt_z x.1.0 y.1.0) false b))
      (is_larger_is (tally_with limit m (some x)) (tally_with limit n (some y)) x.1.1 y.1.1 refl refl refl refl)
      ∙ same (lt_z y.1.0 x.1.0) (lt_z x.1.0 y.1.0) (ltb y.1.1 x.1.1)
    where
      same : (a b d : Bool) → cond a true (cond b false d) ≡ (a || (not b && d))
      same true b d = refl
      same false true d = refl
      same false false d = refl

  -- ---- sums

  recounted : (m n : ℕ) (u : Option Sol) (c : Count) → c ≡ capped limit (true_count u)
      → with_count (tally_with limit m u) n c ≡ tally_with limit n u
  recounted m n none c e = ap (with_count (tally_with limit m none) n) (e ∙ capped_small limit 0 (omega arith))
  recounted m n (some x) c e = ap (with_count (tally_with limit m (some x)) n) e

  module _ (one : 1 ≤ limit) (m n : ℕ) where
    counts : (u v : Option Sol) → capped_sum limit (tally_with limit m u) (tally_with limit n v) ≡ capped limit (true_count u + true_count v)
    counts u v =
        capped_sum_is limit (tally_with limit m u) (tally_with limit n v) (true_count u) (true_count v) (tally_told limit m u)
        (tally_told limit n v)

    -- where the second has no tree, the first is kept; where only the second has one, it is
    plus-none_r : (u : Option Sol) → plus_tally limit (tally_with limit m u) (tally_with limit n none) ≡ tally_with limit (m + n) u
    plus-none_r u =
        sym (plus_tally-first limit (tally_with limit m u) (tally_with limit n none) _ refl
        (keeps_first-none_r (tally_with limit m u) (tally_with limit n none) refl))
        ∙ ap (λ (t : ℕ). with_count (tally_with limit m u) (t + n) (capped_sum limit (tally_with limit m u) (tally_with limit n none)))
        (tally_tuples limit m u)
        ∙ recounted m (m + n) u _ (counts u none ∙ ap (capped limit) (let q : true_count u + 0 ≡ true_count u = omega arith in q))

    plus-none_l : (y : Sol) → 1 ≤ y.0
        → plus_tally limit (tally_with limit m none) (tally_with limit n (some y)) ≡ tally_with limit (m + n) (some y)
    plus-none_l y p =
        sym (plus_tally_second limit (tally_with limit m none) (tally_with limit n (some y)) _ refl
        (keeps_first-none_l (tally_with limit m none) (tally_with limit n (some y))
        (told-count limit (tally_with limit n (some y)) y.0 one p (some-told limit n y)) refl))
        ∙ recounted n (m + n) (some y) _ (counts none (some y) ∙ ap (capped limit) (let q : 0 + y.0 ≡ y.0 = omega arith in q))

    plus_both : (x y : Sol) → 1 ≤ x.0 → 1 ≤ y.0 → (b : Bool) → key_first x.1 y.1 ≡ b
        → plus_tally limit (tally_with limit m (some x)) (tally_with limit n (some y))
        ≡ tally_with limit (m + n) (some (x.0 + y.0, cond b x.1 y.1))
    plus_both x y p q b e = go b (keeps ∙ e)
      where
        A : Tally
        A = tally_with limit m (some x)

        B : Tally
        B = tally_with limit n (some y)

        keeps : keeps_first A B ≡ key_first x.1 y.1
        keeps =
            keeps_first_both A B (told-count limit B y.0 one q (some-told limit n y))
            (told-count limit A x.0 one p (some-told limit m x))
            ∙ is_before_is m n x y

        go : (b : Bool) → keeps_first A B ≡ b → plus_tally limit A B ≡ tally_with limit (m + n) (some (x.0 + y.0, cond b x.1 y.1))
        go true f = sym (plus_tally-first limit A B _ refl f) ∙ ap (with_count A (m + n)) (counts (some x) (some y))
        go false f = sym (plus_tally_second limit A B _ refl f) ∙ ap (with_count B (m + n)) (counts (some x) (some y))

    plus_with : (u v : Option Sol) → Counted u → Counted v
        → plus_tally limit (tally_with limit m u) (tally_with limit n v) ≡ tally_with limit (m + n) (plus_sol u v)
    plus_with none none h k = plus-none_r none
    plus_with (some x) none h k = plus-none_r (some x)
    plus_with none (some y) h k = plus-none_l y k
    plus_with (some x) (some y) h k = plus_both x y h k (key_first x.1 y.1) refl

  pub tally_plus : 1 ≤ limit → (x y : Res) → Counted x.1 → Counted y.1
      → plus_tally limit (tally_of limit x) (tally_of limit y) ≡ tally_of limit (sum_kind.plus x y)
  tally_plus one x y h k = plus_with one x.0 y.0 x.1 y.1 h k

-- ---- one more child

-- the low words don't carry
abbrev pub Clear : Option Sol → Option Sol → Type 0
Clear none y = Unit {0}
Clear (some x) none = Unit {0}
Clear (some x) (some y) = x.1.1 % word_values + y.1.1 % word_values < word_values

module _ (limit : ℕ) (one : 1 ≤ limit) (n : ℕ) where
  under_dead : (u v : Option Sol) → capped_product limit (tally_with limit 1 u) (tally_with limit n v) ≡ exact_count 0
      → under_tally limit (tally_with limit 1 u) (tally_with limit n v) ≡ tally_with limit n none
  under_dead u v e =
      sym (under_tally_dead limit (tally_with limit 1 u) (tally_with limit n v) _ no_tally (sym e) refl refl)
      ∙ ap (with_tuples no_tally) (tally_tuples limit n v)

  under_both : (x y : Sol) → 1 ≤ x.0 → 1 ≤ y.0 → Clear (some x) (some y)
      → under_tally limit (tally_with limit 1 (some x)) (tally_with limit n (some y)) ≡ tally_with limit n (times_sol (some x) (some y))
  under_both x y p q c =
      sym (under_tally-live limit A B (capped limit (x.0 * y.0)) _ (sym counts) refl live)
      ∙ ap₂ (words_of (x.1.0 +ℤ y.1.0)) low high
    where
      A : Tally
      A = tally_with limit 1 (some x)

      B : Tally
      B = tally_with limit n (some y)

      counts : capped_product limit A B ≡ capped limit (x.0 * y.0)
      counts = capped_product_is limit one A B x.0 y.0 p q (some-told limit 1 x) (some-told limit n y)

      live : count_field limit (x.0 * y.0) ≢ 0
      live =
          let xy : Sol = (x.0 * y.0, x.1) in
          told-count limit (tally_with limit 1 (some xy)) (x.0 * y.0) one (one-le-mul p q) (some-told limit 1 xy)

      words_of : ℤ → ℕ → ℕ → Tally
      words_of z l g =
          record { tuples = n; count = count_field limit (x.0 * y.0); mark = mark_field limit (x.0 * y.0); best = z; low = l; high = g }

      low : x.1.1 % word_values + y.1.1 % word_values ≡ (x.1.1 + y.1.1) % word_values
      low = omega arith

      high : x.1.1 / word_values + y.1.1 / word_values ≡ (x.1.1 + y.1.1) / word_values
      high = omega arith

  under_with : (u v : Option Sol) → Counted u → Counted v → Clear u v
      → under_tally limit (tally_with limit 1 u) (tally_with limit n v) ≡ tally_with limit n (times_sol u v)
  under_with none v h k c = under_dead none v (capped_product-none_l limit (tally_with limit 1 none) (tally_with limit n v) refl)
  under_with (some x) none h k c =
      under_dead (some x) none (capped_product-none_r limit (tally_with limit 1 (some x)) (tally_with limit n none)
      (told-count limit (tally_with limit 1 (some x)) x.0 one h (some-told limit 1 x)) refl)
  under_with (some x) (some y) h k c = under_both x y h k c

pub tally_under : (limit : ℕ) → 1 ≤ limit → (u : Option Sol) (y : Res) → Counted u → Counted y.1 → Clear u y.1
    → under_tally limit (tally_of limit (1, u)) (tally_of limit y) ≡ tally_of limit (sum_kind.times (1, u) y)
tally_under limit one u y h k c =
    under_with limit one y.0 u y.1 h k c ∙ ap (λ (n : ℕ). tally_with limit n (times_sol u y.1)) (sym (one-mul y.0))
