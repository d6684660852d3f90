-- Rows in ascending order, and how many of them lie below a number; the rows as parts, and the sums over covers by them.
--     below-le, below_mono     the place is not after a row that isn't below, nor after that of a larger number
--     others_parted, below_of_point     where the first rows are below, how many more are
--     placed                   and where among the others a number stands
--     Begun, begun_asks, begun_more     where each highest taxon starts, taxon by taxon
--     parts_descend            the parts of the first rows fall
--     parts_within             rows above a bound in front leave the others as they are
--     sum_covers_over           the sum over the covers by scored rows
--     sum_covers_search, sum_covers_local       it is the search, and rows above what is covered play no part
-- Assumes nothing.
use mathlib.Core.Path.{◌≡◌, refl, sym, ap, ◌∙◌, subst}
use mathlib.Core.Bool.{Bool, true, false}
use mathlib.Core.Logic.{◌≢◌}
use mathlib.Core.List.{List, map, Memᴰ as Mem}
use Prim.Native.Nat.{ℕ, zero, suc, ◌+◌, ◌-◌, ◌*◌, ◌%◌, ◌^◌, ◌≤◌, ◌<◌}
use native.Mathlib.Decide.{ℕ_discrete, dec_le, dec_lt}
use native.Mathlib.Nat.{le_refl, lt_of_lt_of_le}
use native.Mathlib.Omega.{arith}
use borrow.Author.Tests.{ltb-true, ltb-false}
use lib.Arith.{le-zero}
use lib.Dec.{T, leb, ltb, leb→le}
use lib.ListN.{length, get_or, set, length-set}
use lib.Pow.{pow_mono}
use lib.Seq.{get_or-set_same, get_or-set_other}
use Rattle.std.proofs.Common.{take, drop, Result, Ok, Err}
use Rattle.std.proofs.lemmas.Grind.{common_steps}
use Rattle.std.specs.List.Sorted.{IsPartitionedBy, IsPartitionPoint, IsBinarySearchResult}
use Rattle.std.specs.Ordering.{nat_cmp}
use Rattle.std.specs.Result.{MatchResult}
use Rattle.std.proofs.lemmas.List.{get_or-take, get_or-drop}
use Rattle.std.proofs.lemmas.List.Sorted.{IsPartitionedBy-ltb, IsNonDecreasingBy-from_default, searched}
use Rattle.laws.specs.Lists.{keep_if, keep}
use Rattle.laws.specs.Orders.{down_to}
use Rattle.laws.proofs.Descends.{Descends, descends_of_falling}
use Rattle.laws.proofs.Down.{down_map, mem_down, down_falling}
use Rattle.laws.proofs.Tests.{T_false}
use Rattle.trees.specs.Rows.{Entry, cl, sc}
use Rattle.trees.specs.Kind.{over_tuples}
use Rattle.trees.specs.Cover.{covers_of}
use Rattle.trees.specs.Solution.{count_kind, sol_kind, Res}
use Rattle.trees.proofs.Counting.Keys.{count_lawful, sol_lawful}
use Rattle.trees.proofs.Formula.Kind.{Lawful, pair_lawful}
use Rattle.trees.proofs.Searching.Leads.{within, covers_of-scored}
use Rattle.trees.proofs.Searching.Search.{search}
use Rattle.trees.proofs.Searching.SearchSum.{search_is}
use Rattle.kept.specs.Arrays.{Rising}
use Rattle.kept.proofs.Laws.Marks.{shifted}
use Rattle.table.specs.Searched.{Past, Below}
use Rattle.table.specs.Columns.{Columns, part_at, parts_of, sum_kind, sum_covers}

-- ---- the place of a number

module _ (cs : List ℕ) (n v : ℕ) where
  -- a row that isn't below stands at or after the place
  pub below-le : (r i : ℕ) → Below cs n v r → v ≤ get_or cs i 0 → r ≤ i
  below-le r i b h = go (dec_le r i)
    where
      go : Dec (r ≤ i) → r ≤ i
      go (yes l) = l
      go (no f) = absurd (omega (arith, b.less i (omega arith)))

  pub below_mono : (w r s : ℕ) → v ≤ w → Below cs n v r → Below cs n w s → r ≤ s
  below_mono w r s h b c = go (dec_lt s n)
    where
      go : Dec (s < n) → r ≤ s
      go (yes l) = below-le r s b (omega (arith, c.more s (le_refl s) l))
      go (no f) = omega (arith, b.within)

rising_le : {cs : List ℕ} {n : ℕ} → Rising cs n → (i j : ℕ) → i ≤ j → j < n → get_or cs i 0 ≤ get_or cs j 0
rising_le {cs} {n} up i j h k = go (ℕ_discrete i j)
  where
    go : Dec (i ≡ j) → get_or cs i 0 ≤ get_or cs j 0
    go (yes e) = rw e (omega arith)
    go (no f) = omega (arith, up.up i j (omega arith) k)

-- ---- the rows from the place known so far on, as the code looks through them

module _ {cs : List ℕ} {n v past : ℕ} (up : Rising cs n) (p : Past cs n v past) where
  abbrev pub others : List ℕ
  others = take (n - past) (drop past cs)

  others-length : length others ≡ n - past
  others-length = let long : n ≤ length cs = up.long in grind (arith, common_steps)

  other_at : (i : ℕ) → i < n - past → get_or others i 0 ≡ get_or cs (past + i) 0
  other_at i h = get_or-take (n - past) (drop past cs) i 0 h ∙ get_or-drop past cs i 0

  at_other : (i : ℕ) → past ≤ i → i < n → get_or cs i 0 ≡ get_or others (i - past) 0
  at_other i h k = sym (other_at (i - past) (omega arith) ∙ ap (λ (j : ℕ). get_or cs j 0) (omega arith))

  others_rise : (i j : ℕ) → i ≤ j → j < length others → get_or others i 0 ≤ get_or others j 0
  others_rise i j h k =
      let l : j < n - past = omega (arith, others-length) in
      rw (other_at i (omega arith), other_at j l) (rising_le up (past + i) (past + j) (omega arith) (omega arith))

  -- r of them are below v, as `partition_point` tells
  pub others_parted : IsPartitionedBy (λ y. ltb y v) others
  others_parted = IsPartitionedBy-ltb (λ (y : ℕ). y) others v (IsNonDecreasingBy-from_default (λ (y : ℕ). y) others 0 others_rise)

  pub below_of_point : {r : ℕ} → r ≤ length others → IsPartitionPoint (λ y. ltb y v ≡ true) (λ y. ltb y v ≡ false) others r
      → Below cs n v (past + r)
  below_of_point {r} h q = record {
    within = omega (arith, others-length, p.within);
    less = λ i l. low i (dec_lt i past) l;
    more = λ i l k. rw (at_other i (omega arith) k) (ltb-false _ _ (q.1 (i - past) 0 (omega arith) (omega (arith, others-length))));
  }
    where
      low : (i : ℕ) → Dec (i < past) → i < past + r → get_or cs i 0 < v
      low i (yes l) k = p.less i l
      low i (no f) k =
          rw (at_other i (omega arith) (omega (arith, others-length))) (ltb-true _ _ (q.0 (i - past) 0 (omega arith) (omega arith)))

  -- v is found among them, or isn't there, as `binary_search` tells
  abbrev pub Placed : Result ℕ ℕ → Type 0
  Placed r = MatchResult r (λ i. (past + i < n) × (get_or cs (past + i) 0 ≡ v)) (λ i. (j : ℕ) → j < n → get_or cs j 0 ≢ v)

  pub placed : (r : Result ℕ ℕ) → IsBinarySearchResult (λ y. nat_cmp y v) others r → Placed r
  placed r h = go r (searched others v r h others_rise)
    where
      absent : {i : ℕ} → ((k : ℕ) → k < i → get_or others k 0 < v) → ((k : ℕ) → i ≤ k → k < length others → v < get_or others k 0)
          → (j : ℕ) → j < n → get_or cs j 0 ≡ v → Dec (j < past) → Dec (j - past < i) → ⊥
      absent less more j l e (yes h) d = omega (arith, p.less j h)
      absent less more j l e (no h) (yes k) = omega (arith, less (j - past) k, at_other j (omega arith) l)
      absent less more j l e (no h) (no k) =
          omega (arith, more (j - past) (omega arith) (omega (arith, others-length)), at_other j (omega arith) l)

      go : (r : Result ℕ ℕ) → MatchResult r (λ i. (i < length others) × (get_or others i 0 ≡ v))
          (λ i. (i ≤ length others) × ((k : ℕ) → k < i → get_or others k 0 < v) × ((k : ℕ) → i ≤ k → k < length others → v < get_or others k 0))
          → Placed r
      go (Ok i) q = let l : i < n - past = omega (arith, others-length, q.0) in (omega arith, sym (other_at i l) ∙ q.1)
      go (Err i) q = λ j l e. absent q.1 q.2 j l e (dec_lt j past) (dec_lt (j - past) i)

-- ---- where each highest taxon starts

-- the starts of the taxa below t; p rows are below t, and the last start is all rows
pub record Begun (cs : List ℕ) (n t p : ℕ) (starts : List ℕ) : Type 0 where
  pub long : length starts ≡ 65
  pub within : t ≤ 64
  pub each : (h : ℕ) → h < t → Below cs n (2 ^ h) (get_or starts h 0)
  pub past : Past cs n (2 ^ t) p
  pub last : get_or starts 64 0 ≡ n

module _ {cs : List ℕ} {n : ℕ} where
  module _ {t p : ℕ} {starts : List ℕ} (b : Begun cs n t p starts) where
    pub begun_asks : t < 64 → Past cs n ((1 * 2 ^ t) % 2 ^ 64) p
    begun_asks k = subst (λ (v : ℕ). Past cs n v p) (sym (shifted t k)) b.past

    pub begun_more : {r : ℕ} → t < 64 → Below cs n ((1 * 2 ^ t) % 2 ^ 64) r → Begun cs n (t + 1) r (set starts t r)
    begun_more {r} k w = record {
      long = length-set starts t r ∙ b.long;
      within = omega arith;
      each = λ h l. go h (ℕ_discrete h t) l;
      past = record {
        within = below.within;
        less = λ i h. lt_of_lt_of_le (below.less i h) (pow_mono (let more : t ≤ t + 1 = omega arith in more));
      };
      last = get_or-set_other starts t 64 r 0 (λ e. omega arith) ∙ b.last;
    }
      where
        below : Below cs n (2 ^ t) r
        below = subst (λ (v : ℕ). Below cs n v r) (shifted t k) w

        go : (h : ℕ) → Dec (h ≡ t) → h < t + 1 → Below cs n (2 ^ h) (get_or (set starts t r) h 0)
        go h (yes e) l = rw (e, get_or-set_same starts t r 0 (omega (arith, b.long))) below
        go h (no f) l = rw (get_or-set_other starts t h r 0 f) (b.each h (omega arith))

-- ---- the rows as parts

module _ (k : Columns) where
  pub parts_descend : (n : ℕ) → ((i j : ℕ) → i < j → j < n → get_or k.clusters i 0 < get_or k.clusters j 0)
      → ((i : ℕ) → i < n → 0 < get_or k.clusters i 0) → Descends (map cl (parts_of k n))
  parts_descend n up nz = rw (down_map cl (part_at k) n) (descends_of_falling _ (down_falling at n up) full)
    where
      at : ℕ → ℕ
      at i = get_or k.clusters i 0

      full : (c : ℕ) → Mem c (down_to at n) → c ≢ 0
      full c m e = let q = mem_down at n c m in omega (arith, q.2, nz q.0 q.1)

  -- the rows from m on are above b
  pub parts_within : (b m n : ℕ) → m ≤ n → ((i : ℕ) → m ≤ i → i < n → b < get_or k.clusters i 0)
      → keep (within b) (parts_of k m) ≡ keep (within b) (parts_of k n)
  parts_within b m zero h f = ap (λ (i : ℕ). keep (within b) (parts_of k i)) (le-zero h)
  parts_within b m (suc n) h f = go (ℕ_discrete m (suc n)) (λ l. parts_within b m n l (λ i j p. f i j (omega arith)))
    where
      over : m ≤ n → T (leb (get_or k.clusters n 0) b) → ⊥
      over l t = omega (arith, leb→le (get_or k.clusters n 0) b t, f n l (omega arith))

      go : Dec (m ≡ suc n) → (m ≤ n → keep (within b) (parts_of k m) ≡ keep (within b) (parts_of k n))
          → keep (within b) (parts_of k m) ≡ keep (within b) (parts_of k (suc n))
      go (yes e) r = ap (λ (i : ℕ). keep (within b) (parts_of k i)) e
      go (no g) r =
          r (omega arith)
          ∙ ap (λ (t : Bool). keep_if t (part_at k n) (keep (within b) (parts_of k n)))
          (sym (T_false (leb (get_or k.clusters n 0) b) (over (omega arith))))

-- ---- sums over covers

sum_lawful : Lawful sum_kind
sum_lawful = pair_lawful count_kind (sol_kind (λ (c : ℕ). 0)) count_lawful (sol_lawful (λ (c : ℕ). 0))

module _ (n R : ℕ) (es : List (Entry Res)) where
  pub sum_covers_over : sum_covers n R es ≡ over_tuples sum_kind (covers_of n R (keep sc es))
  unfolding sum_covers
  sum_covers_over = refl

  pub sum_covers_search : Descends (map cl es) → 0 < R → sum_covers n R es ≡ search sum_kind n R es
  sum_covers_search h p = sum_covers_over ∙ sym (search_is sum_kind sum_lawful n R es h p)

  pub sum_covers_local : (es' : List (Entry Res)) → keep (within R) es ≡ keep (within R) es' → sum_covers n R es ≡ sum_covers n R es'
  unfolding sum_covers
  sum_covers_local es' e = ap (over_tuples sum_kind) (covers_of-scored n R R es es' (le_refl R) e)
