-- How many tuples a row can have: 2 to d - 1 out of the other clusters, so at most the sum of those binomial numbers.
--     tuples-le_other                  out of a list of clusters that has C itself, which is in no tuple
--     entries_le                       tuples of entries
--     row_length-le                    the row length of a row among rows
--     row_length-most                  no row is longer than the limit of the width
-- Assumes nothing.
use mathlib.Core.Path.{refl, ◌∙◌}
use mathlib.Core.Logic.{◌≢◌}
use mathlib.Core.Bool.{Bool, true, false, not, cond, ◌&&◌}
use mathlib.Core.List.Memᴰ
use mathlib.Core.List.{List, [], ◌∷◌, map}
use mathlib.Core.List.Memᴰ.{not-nil as mem-nil}
use mathlib.Core.List.{Memᴰ as Mem}
use Prim.Native.Nat.{ℕ, ◌-◌, ◌≤◌, zero-le}
use native.Mathlib.Nat.{le_refl, le_trans}
use native.Mathlib.Omega.{arith}
use lib.Dec.{T, eqb}
use lib.ListN.{length, length-map}
use Rattle.laws.specs.Cluster.{single}
use Rattle.laws.specs.Limits.{Width, degree_high}
use Rattle.laws.specs.Lists.{keep, sublists}
use Rattle.laws.specs.Row.{Row, is_scored}
use Rattle.laws.specs.Widths.{few, WidthFacts}
use Rattle.laws.proofs.Choose.{few_mono, Sized, few-le, few-le_other}
use Rattle.laws.proofs.Keep.{mem-keep, mem_of_keep, length-keep-le}
use Rattle.laws.proofs.Sublists.{mem_of_sublist}
use Rattle.laws.proofs.Tests.{T_and, neq→, →neq}
use Rattle.trees.specs.Rows.{scored_in, Entry, cl}
use Rattle.trees.specs.Tuple.{is_tuple, tuples}
use Rattle.trees.specs.Built.{row_length}
use Rattle.trees.proofs.Sets.Tuples.{tuple→, part_other}

-- every cluster but C
abbrev other : ℕ → ℕ → Bool
other C c = not (eqb c C)

-- ---- tuples of clusters

tuple_sized : (d C : ℕ) → Sized (is_tuple d C) (d - 1)
tuple_sized d C cs h = let f = tuple→ d C cs h in (f.two, f.few)

pub tuples-le_other : (d C : ℕ) (L : List ℕ) → ((c : ℕ) → Mem c L → c ≢ 0) → Mem C L
    → length (keep (is_tuple d C) (sublists L)) ≤ few (length L - 1) (d - 1)
tuples-le_other d C L nz m =
    few-le_other (is_tuple d C) (d - 1) (tuple_sized d C) (other C) L C m (λ h. neq→ C C h refl)
    (λ s k h c j. →neq c C (part_other d C s (λ x i. nz x (mem_of_sublist L s k x i)) h c j))

-- ---- tuples of entries

module _ {A : Type 0} where
  entry_sized : (d C : ℕ) → Sized (λ (τ : List (Entry A)). is_tuple d C (map cl τ)) (d - 1)
  entry_sized d C τ h = let f = tuple→ d C (map cl τ) h in let e = length-map τ cl in (omega (arith, f.two), omega (arith, f.few))

  pub entries_le : (d C : ℕ) (es : List (Entry A)) → length (tuples d C es) ≤ few (length es) (d - 1)
  entries_le d C es = few-le (λ (τ : List (Entry A)). is_tuple d C (map cl τ)) (d - 1) (entry_sized d C) es

-- ---- rows of a table

scored-count : (rs : List Row) → length (scored_in rs) ≤ length rs
scored-count rs = omega (arith, length-map (keep is_scored rs) (λ (r : Row). r.cluster), length-keep-le is_scored rs)

pub row_length-le : (d : ℕ) (rs : List Row) (r : Row) → ((x : Row) → Mem x rs → x.cluster ≢ 0) → Mem r rs
    → row_length d rs r ≤ few (length rs - 1) (d - 1)
row_length-le d rs r nz m = go (is_scored r && not (single r.cluster)) (λ t. (T_and (is_scored r) (not (single r.cluster)) t).0)
  where
    nonzero : (c : ℕ) → Mem c (scored_in rs) → c ≢ 0
    nonzero c k z =
        let q = Memᴰ.of_map (λ (x : Row). x.cluster) (keep is_scored rs) k in
        nz q.0 (mem_of_keep is_scored rs q.1).0 (q.2 ∙ z)

    full : T (is_scored r) → length (keep (is_tuple d r.cluster) (sublists (scored_in rs))) ≤ few (length rs - 1) (d - 1)
    full t =
        le_trans (tuples-le_other d r.cluster (scored_in rs) nonzero (Memᴰ.map (λ (x : Row). x.cluster) (mem-keep is_scored rs m t)))
        (few_mono (length (scored_in rs) - 1) (length rs - 1) (d - 1) (d - 1) (omega (arith, scored-count rs)) (le_refl (d - 1)))

    go : (b : Bool) → (T b → T (is_scored r))
        → cond b (length (keep (is_tuple d r.cluster) (sublists (scored_in rs)))) 0 ≤ few (length rs - 1) (d - 1)
    go true f = full (f tt)
    go false f = zero-le

-- ---- in numbers

pub row_length-most : (W : Width) → WidthFacts W → (d : ℕ) (rs : List Row) (r : Row) → ((x : Row) → Mem x rs → x.cluster ≢ 0) → Mem r rs
    → d ≤ degree_high → length rs ≤ W.rows → row_length d rs r ≤ W.length_max
row_length-most W facts d rs r nz m h k =
    le_trans (row_length-le d rs r nz m) (facts.tuples d (length rs - 1) h (omega (arith, some rs m)))
  where
    some : (qs : List Row) → Mem r qs → 1 ≤ length qs
    some [] i = absurd (mem-nil i)
    some (q ∷ qs) i = omega arith
