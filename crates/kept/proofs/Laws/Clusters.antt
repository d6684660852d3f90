-- The clusters of the first rows, and their marks by row number.
--     clusters_are         the clusters of the first rows, as entries and as an array have them
--     Ascends cs n, rising_part     the first n ascend; fewer rows do so too
--     rises_once               no two of them are one cluster
--     is_rising→, →is_rising     the test of it
--     rising-more, rising_stop, rising_end     the test from the last cluster down
--     sorted_is            the test as the code makes it, of each cluster and the next
--     first_down, first_rising, first_ascend     the first clusters by themselves: from the largest down, their test, and that they ascend
--     mark_down            the mark of row i among the first clusters
--     every_marked_is, is_marked_in_is     the marks of the first rows, by row number
-- Assumes nothing.
use mathlib.Core.Path.{◌≡◌, refl, sym, ap, ap₂, ◌∙◌, subst}
use mathlib.Core.Logic.{◌≢◌}
use mathlib.Core.Bool.{Bool, true, false, not, ◌&&◌, ◌||◌, or-false}
use mathlib.Core.List.{List, map}
use mathlib.Core.List.{Memᴰ as Mem}
use Prim.Native.Nat.{ℕ, zero, suc, ◌-◌, ◌^◌, ◌≤◌, ◌<◌}
use native.Mathlib.Decide.{dec_le, ℕ_discrete}
use native.Mathlib.Numerals.{add-one}
use native.Mathlib.Omega.{arith}
use borrow.Author.Tests.{eq-eqb, ne_eqb, lt-ltb, le-ltb}
use lib.Dec.{T, eqb, ltb, eqb→eq, ltb→lt, lt→ltb}
use lib.ListN.{get_or, length, take}
use Rattle.std.specs.List.{IsAllAdjacentAnswer}
use Rattle.std.proofs.lemmas.List.{get_or-take, length-take-le}
use Rattle.laws.specs.Lists.{every}
use Rattle.laws.specs.Orders.{places}
use Rattle.laws.proofs.Down.{down_length, down_ext, down_map, mem_down, every→down, down→every, down_passed, down_stopped}
use Rattle.laws.proofs.Tests.{T_true, T_false, true_T}
use Rattle.trees.specs.Result.{marks_in}
use Rattle.trees.specs.Rows.{cl}
use Rattle.trees.proofs.Sets.Families.{one}
use Rattle.trees.proofs.Ties.Marks.{marks-none}
use Rattle.kept.specs.declared.table.Table.{Table}
use Rattle.kept.specs.View.{entry_at, entries_of, clusters_down}
use Rattle.kept.specs.Marks.{has_mark, every_marked, is_marked_in}
use Rattle.kept.specs.Fit.{is_rising}
use Rattle.kept.specs.Arrays.{Rising}
use Rattle.kept.specs.Fields.{every_bit}

pub clusters_are : (t : Table) (n : ℕ) → map cl (entries_of t n) ≡ clusters_down t.clusters n
clusters_are t = down_map cl (entry_at t)

-- tests that agree below n
every_ext : (p q : ℕ → Bool) (n : ℕ) → ((i : ℕ) → i < n → p i ≡ q i) → every p (places n) ≡ every q (places n)
every_ext p q zero h = refl
every_ext p q (suc n) h = ap₂ ◌&&◌ (h n (omega arith)) (every_ext p q n (λ i l. h i (omega arith)))

module _ (cs : List ℕ) where
  abbrev cluster_of : ℕ → ℕ
  cluster_of i = get_or cs i 0

  pub rising_part : (n m : ℕ) → m ≤ n → Rising cs n → Rising cs m
  rising_part n m h r = record { long = omega (arith, r.long); up = λ i j k l. r.up i j k (omega arith) }

  abbrev pub Ascends : ℕ → Type 0
  Ascends n = (i j : ℕ) → i < j → j < n → get_or cs i 0 < get_or cs j 0

  -- ---- the test that they ascend
  -- a cluster is below the next
  abbrev is_below : ℕ → Bool
  is_below i = ltb (get_or cs i 0) (get_or cs (suc i) 0)

  pub is_rising→ : (n : ℕ) → T (is_rising cs n) → Ascends n
  is_rising→ n h i zero l m = absurd (omega arith)
  is_rising→ n h i (suc k) l m = go (ℕ_discrete i k) (is_rising→ n h i k)
    where
      step : get_or cs k 0 < get_or cs (suc k) 0
      step = ltb→lt _ _ (every→down is_below (λ (j : ℕ). j) (n - 1) h k (omega arith))

      go : Dec (i ≡ k) → (i < k → k < n → get_or cs i 0 < get_or cs k 0) → get_or cs i 0 < get_or cs (suc k) 0
      go (yes e) ih = rw e step
      go (no d) ih = omega (arith, step, ih (omega arith) (omega arith))

  pub →is_rising : (n : ℕ) → Ascends n → T (is_rising cs n)
  →is_rising n f = down→every is_below (λ (j : ℕ). j) (n - 1) (λ j l. lt→ltb _ _ (f j (suc j) (omega arith) (omega arith)))

  pub rises_once : (n i j : ℕ) → Ascends n → i < n → j < n → get_or cs i 0 ≡ get_or cs j 0 → i ≡ j
  rises_once n i j up a b e = go (dec_le i j) (dec_le j i)
    where
      go : Dec (i ≤ j) → Dec (j ≤ i) → i ≡ j
      go (yes h) (yes k) = omega arith
      go (yes h) (no k) = absurd (omega (arith, up i j (omega arith) b, e))
      go (no h) k = absurd (omega (arith, up j i (omega arith) a, e))

  pub sorted_is : (r : Bool) → IsAllAdjacentAnswer (λ (x y : ℕ) (b : Bool). b ≡ ltb x y) cs r → r ≡ is_rising cs (length cs)
  sorted_is true up =
      sym (T_true _ (down→every is_below (λ (j : ℕ). j) (length cs - 1) (λ j l. true_T (sym (rw add-one at (up j 0 (omega arith)))))))
  sorted_is false down =
      let k = down.0 in
      let falls : is_below k ≡ false = rw add-one at (sym (down.2 0)) in
      sym (T_false _ (λ h. subst T falls (every→down is_below (λ (j : ℕ). j) (length cs - 1) h k (omega (arith, down.1)))))

  -- the cluster before the last of i
  before_last : (i : ℕ) → 1 < i → suc (i - 1 - 1) ≡ i - 1
  before_last i h = omega arith

  pub rising-more : (i : ℕ) → 1 < i → get_or cs (i - 1 - 1) 0 < get_or cs (i - 1) 0 → is_rising cs i ≡ is_rising cs (i - 1)
  rising-more i h l = down_passed is_below (λ (j : ℕ). j) (i - 1) (omega arith) (rw (before_last i h) (lt-ltb _ _ l))

  pub rising_stop : (i : ℕ) → 1 < i → get_or cs (i - 1) 0 ≤ get_or cs (i - 1 - 1) 0 → is_rising cs i ≡ false
  rising_stop i h l = down_stopped is_below (λ (j : ℕ). j) (i - 1) (omega arith) (rw (before_last i h) (le-ltb _ _ l))

  pub rising_end : (i : ℕ) → i ≤ 1 → is_rising cs i ≡ true
  rising_end i h = let e : i - 1 ≡ 0 = omega arith in rw e

  -- ---- the first clusters by themselves
  module _ (n : ℕ) (h : n ≤ length cs) where
    long : length (take n cs) ≡ n
    long = length-take-le n cs h

    first_at : (i : ℕ) → i < n → get_or (take n cs) i 0 ≡ get_or cs i 0
    first_at i l = get_or-take n cs i 0 l

    pub first_down : clusters_down (take n cs) (length (take n cs)) ≡ clusters_down cs n
    first_down = rw long (down_ext (λ (i : ℕ). get_or (take n cs) i 0) cluster_of n first_at)

    pub first_rising : is_rising (take n cs) (length (take n cs)) ≡ is_rising cs n
    first_rising =
        ap (every (λ (i : ℕ). ltb (get_or (take n cs) i 0) (get_or (take n cs) (suc i) 0))) (ap (λ (k : ℕ). places (k - 1)) long)
        ∙ every_ext _ is_below (n - 1) (λ i l. ap₂ ltb (first_at i (omega arith)) (first_at (suc i) (omega arith)))

  pub first_ascend : (n : ℕ) → Rising cs n → Rising (take n cs) (length (take n cs))
  first_ascend n r = record { long = omega arith; up = up }
    where
      up : (i j : ℕ) → i < j → j < length (take n cs) → get_or (take n cs) i 0 < get_or (take n cs) j 0
      up i j k l =
          let place : j < n = omega (arith, long n r.long) in
          rw (first_at n r.long i (omega arith), first_at n r.long j place) (r.up i j k place)

  -- ---- marks by row number
  pub mark_down : (n i : ℕ) → Ascends n → i < n → marks_in (clusters_down cs n) (one (get_or cs i 0)) ≡ 2 ^ i
  mark_down zero i up h = absurd (omega arith)
  mark_down (suc n) i up h = go (ℕ_discrete i n) (mark_down n i (λ a b p q. up a b p (omega arith)))
    where
      none_below : (c : ℕ) → Mem c (clusters_down cs n) → T (eqb c (get_or cs n 0)) → ⊥
      none_below c m t = let q = mem_down cluster_of n c m in omega (arith, q.2, eqb→eq c (get_or cs n 0) t, up q.0 n q.1 (omega arith))

      top : marks_in (clusters_down cs (suc n)) (one (get_or cs n 0)) ≡ 2 ^ n
      top =
          let none = marks-none (clusters_down cs n) (one (get_or cs n 0)) none_below in
          rw (eq-eqb (get_or cs n 0) (get_or cs n 0) refl, none, down_length cluster_of n) (omega arith)

      go : Dec (i ≡ n) → (i < n → marks_in (clusters_down cs n) (one (get_or cs i 0)) ≡ 2 ^ i)
          → marks_in (clusters_down cs (suc n)) (one (get_or cs i 0)) ≡ 2 ^ i
      go (yes e) ih = rw e top
      go (no d) ih =
          rw (ne_eqb (get_or cs n 0) (get_or cs i 0) (λ e. omega (arith, e, up i n (omega arith) (omega arith)))) (ih (omega arith))

  pub every_marked_is : (n m : ℕ) (p : ℕ → Bool) → every_marked (clusters_down cs n) m p ≡ every_bit m n (λ i. p (get_or cs i 0))
  unfolding every_bit
  every_marked_is zero m p = refl
  every_marked_is (suc n) m p =
      ap₂ (λ (k : ℕ) (b : Bool). (not (has_mark m k) || p (get_or cs n 0)) && b) (down_length cluster_of n) (every_marked_is n m p)

  -- no row has the cluster
  is_marked_in-none : (n m c : ℕ) → ((i : ℕ) → i < n → get_or cs i 0 ≢ c) → is_marked_in (clusters_down cs n) m c ≡ false
  is_marked_in-none zero m c f = refl
  is_marked_in-none (suc n) m c f = rw (ne_eqb _ _ (f n (omega arith))) (is_marked_in-none n m c (λ i l. f i (omega arith)))

  pub is_marked_in_is : (n m i : ℕ) → Rising cs n → i < n → is_marked_in (clusters_down cs n) m (get_or cs i 0) ≡ has_mark m i
  is_marked_in_is zero m i r h = absurd (omega arith)
  is_marked_in_is (suc n) m i r h = go (ℕ_discrete i n) (λ l. is_marked_in_is n m i (rising_part (suc n) n (omega arith) r) l)
    where
      go : Dec (i ≡ n) → (i < n → is_marked_in (clusters_down cs n) m (get_or cs i 0) ≡ has_mark m i)
          → is_marked_in (clusters_down cs (suc n)) m (get_or cs i 0) ≡ has_mark m i
      go (yes e) f =
          let none = is_marked_in-none n m (get_or cs n 0) (λ j l q. omega (arith, q, r.up j n l (omega arith))) in
          rw (e, eq-eqb (get_or cs n 0) (get_or cs n 0) refl, down_length cluster_of n, none) (or-false (has_mark m n))
      go (no d) f =
          let other = ne_eqb (get_or cs n 0) (get_or cs i 0) (λ q. omega (arith, q, r.up i n (omega arith) (omega arith))) in
          rw other (f (omega arith))
