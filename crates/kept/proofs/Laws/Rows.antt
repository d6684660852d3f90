-- Looking up rows.
--     is_cluster_at          the test of one place
--     place_among_is         where the search through the first clusters ends
--     place_at, place_none, place_iff     the row of a cluster, in any table: it has it; or none has, and all that are looked at are told
--     all_shown            all rows are looked at where there is room for them
--     place_of_at           the row of a cluster has it
--     has_row_is            a cluster has a row exactly where its place is below the number of rows
--     leaf_set_iff          a taxon of the leaf set is one of a scored row
--     leaf_set_is           the leaf set out of the clusters and the states of the rows that are looked at
-- Assumes nothing.
use mathlib.Core.Path.{◌≡◌, refl, sym, ap, ap₂, ◌∙◌, subst}
use mathlib.Core.Logic.{◌↔◌}
use mathlib.Core.Bool.{Bool, true, false, cond}
use mathlib.Core.List.{List, [], ◌∷◌}
use Prim.Native.Nat.{ℕ, zero, suc, ◌+◌, ◌^◌, ◌≤◌, ◌<◌}
use native.Mathlib.Decide.{dec_lt}
use native.Mathlib.Nat.{min-eq_left}
use native.Mathlib.Omega.{arith}
use native.Mathlib.Numerals.{add-one}
use borrow.Author.Tests.{eq-eqb, eqb-true, lt-ltb, le-ltb}
use lib.Dec.{T, eqb, ltb, ltb→lt, lt→ltb}
use lib.ListN.{get_or, length, take}
use lib.Bits.{bit_or}
use Rattle.std.specs.List.{position, position_or_len, fold, filter, zip}
use Rattle.std.specs.Option.{unwrap_or}
use Rattle.std.proofs.Common.{Some, None, min}
use Rattle.std.proofs.lemmas.Slice.Zip.{length-zip, get_or-zip}
use Rattle.std.proofs.lemmas.List.{get_or-take, length-take, length-take-le, take_all}
use Rattle.std.proofs.lemmas.List.Elements.{filter_more}
use Rattle.std.proofs.lemmas.List.Sums.{position_or_len_is, fold-append}
use Rattle.laws.specs.State.{scored}
use Rattle.laws.specs.Cluster.{inside}
use Rattle.laws.specs.Lists.{elem}
use Rattle.laws.specs.Limits.{row_cap}
use Rattle.laws.specs.Orders.{down_to}
use Rattle.laws.specs.Row.{Row, is_scored}
use Rattle.laws.proofs.Down.{mem_down, down_mem, elem_down_iff}
use Rattle.laws.proofs.First.{first_high, first-before, first_at, unfound_iff}
use Rattle.laws.proofs.Tests.{bool_ext}
use Rattle.trees.specs.Rows.{leaves}
use Rattle.trees.proofs.Formula.Rows.{leaves_iff, leaves-scored, leaves-unscored}
use Rattle.kept.specs.declared.table.Table.{Table}
use Rattle.kept.specs.View.{row_at, clusters_down}
use Rattle.kept.specs.Rows.{shown_rows, place_among, place_of, leaf_set, has_row}
use Rattle.kept.proofs.Laws.Clusters.{clusters_are}

abbrev pub is_cluster_at : List ℕ → ℕ → ℕ → Bool
is_cluster_at cs c i = eqb (get_or cs i 0) c

-- ---- the search
pub place_among_is : (cs : List ℕ) (n c : ℕ) → n ≤ length cs → unwrap_or (position (λ (x : ℕ). eqb x c) (take n cs)) n ≡ place_among cs n c
place_among_is cs n c h = rw (long, first) (go (dec_lt (place_among cs n c) n))
  where
    long : length (take n cs) ≡ n
    long = length-take-le n cs h

    most : place_among cs n c ≤ 0 + n
    most = first_high (is_cluster_at cs c) 0 n

    first : position_or_len (λ (x : ℕ). eqb x c) (take n cs) ≡ place_among cs n c
    first =
        position_or_len_is (λ (x : ℕ). eqb x c) (take n cs) (place_among cs n c) 0 (omega (arith, long, most))
        (λ k l. let e = get_or-take n cs k 0 (omega (arith, most)) in rw e (first-before (is_cluster_at cs c) 0 n k (omega arith) l))
        (λ l.
        let place : place_among cs n c < n = omega (arith, long) in
        rw (get_or-take n cs (place_among cs n c) 0 place) (first_at (is_cluster_at cs c) 0 n (omega arith)))

    go : Dec (place_among cs n c < n)
        → unwrap_or (cond (ltb (place_among cs n c) n) (Some (place_among cs n c)) None) n ≡ place_among cs n c
    go (yes l) = rw (lt-ltb _ _ l)
    go (no l) = rw (le-ltb (place_among cs n c) n (omega arith)) (omega (arith, most))

-- ---- in any table
module _ (t : Table) (c : ℕ) where
  pub place_at : place_of t c < shown_rows t → get_or t.clusters (place_of t c) 0 ≡ c
  place_at h = eqb-true _ _ (first_at (is_cluster_at t.clusters c) 0 (shown_rows t) (omega (arith, h)))

  pub place_none : (place_of t c < shown_rows t → ⊥) → place_of t c ≡ shown_rows t
  place_none n = go (dec_lt (place_of t c) (shown_rows t))
    where
      go : Dec (place_of t c < shown_rows t) → place_of t c ≡ shown_rows t
      go (yes h) = absurd (n h)
      go (no f) = omega (arith, first_high (is_cluster_at t.clusters c) 0 (shown_rows t))

  pub place_iff : (place_of t c < shown_rows t) ↔ ((i : ℕ) × (i < shown_rows t) × (get_or t.clusters i 0 ≡ c))
  place_iff = (λ h. (place_of t c, h, place_at h), λ q. go q (dec_lt (place_of t c) (shown_rows t)))
    where
      go : (i : ℕ) × (i < shown_rows t) × (get_or t.clusters i 0 ≡ c) → Dec (place_of t c < shown_rows t) → place_of t c < shown_rows t
      go q (yes h) = h
      go q (no f) =
          let none = (unfound_iff (is_cluster_at t.clusters c) (shown_rows t)).0 (λ h. f (ltb→lt (place_of t c) (shown_rows t) h)) in
          absurd (subst T (sym (eq-eqb _ _ q.2) ∙ none q.0 q.1) tt)

-- ---- in a table with no more rows than there is room for
pub all_shown : (t : Table) → t.rows ≤ row_cap → shown_rows t ≡ t.rows
all_shown t capped = min-eq_left capped

module _ (t : Table) (capped : t.rows ≤ row_cap) (c : ℕ) where
  pub place_of_at : place_of t c < t.rows → get_or t.clusters (place_of t c) 0 ≡ c
  place_of_at h = place_at t c (omega (arith, all_shown t capped, h))

  pub has_row_is : has_row t c ≡ ltb (place_of t c) t.rows
  has_row_is =
      ap (elem c) (clusters_are t t.rows)
      ∙ bool_ext (elem c (clusters_down t.clusters t.rows)) (ltb (place_of t c) t.rows) found
      (λ h. let l = ltb→lt (place_of t c) t.rows h in one_of.1 (place_of t c, l, sym (place_of_at l)))
    where
      one_of : T (elem c (clusters_down t.clusters t.rows)) ↔ ((j : ℕ) × (j < t.rows) × (c ≡ get_or t.clusters j 0))
      one_of = elem_down_iff (λ (j : ℕ). get_or t.clusters j 0) t.rows c

      found : T (elem c (clusters_down t.clusters t.rows)) → T (ltb (place_of t c) t.rows)
      found h =
          let q = one_of.0 h in
          let l = (place_iff t c).1 (q.0, omega (arith, all_shown t capped, q.1), sym q.2) in
          lt→ltb (place_of t c) t.rows (omega (arith, all_shown t capped, l))

-- ---- the leaf set

module _ (t : Table) (x : ℕ) where
  abbrev all : List Row
  all = down_to (row_at t) (shown_rows t)

  pub leaf_set_iff : T (inside (2 ^ x) (leaf_set t))
      ↔ ((i : ℕ) × (i < shown_rows t) × T (is_scored (row_at t i)) × T (inside (2 ^ x) (row_at t i).cluster))
  leaf_set_iff = (to, λ q. (leaves_iff all x).1 (row_at t q.0, down_mem (row_at t) (shown_rows t) q.0 q.1, q.2, q.3))
    where
      to : T (inside (2 ^ x) (leaf_set t))
          → (i : ℕ) × (i < shown_rows t) × T (is_scored (row_at t i)) × T (inside (2 ^ x) (row_at t i).cluster)
      to h =
          let q = (leaves_iff all x).0 h in
          let p = mem_down (row_at t) (shown_rows t) q.0 q.1 in (
            p.0,
            p.1,
            subst (λ (r : Row). T (is_scored r)) p.2 q.2,
            subst (λ (r : Row). T (inside (2 ^ x) r.cluster)) p.2 q.3,
          )

-- ---- the leaf set, cluster by cluster
module _ (t : Table) (n : ℕ) where
  -- the clusters with the states of their rows
  abbrev shown_pairs : List (ℕ × ℕ)
  shown_pairs = zip (take n t.clusters) (take n t.states)

  abbrev joined : ℕ → ℕ × ℕ → ℕ
  joined a p = bit_or a p.0

  abbrev counts : ℕ × ℕ → Bool
  counts p = scored p.1

  leaves_to : (k : ℕ) → k ≤ length shown_pairs → fold joined 0 (filter counts (take k shown_pairs)) ≡ leaves (down_to (row_at t) k)
  leaves_to zero h = refl
  leaves_to (suc k) h =
      ap (fold joined 0) (rw add-one at (filter_more counts shown_pairs k (0, 0) (omega arith)))
      ∙ fold-append joined 0 (filter counts (take k shown_pairs)) _
      ∙ rw pair (one (is_scored (row_at t k)) refl (leaves_to k (omega arith)))
    where
      place : k < min (length (take n t.clusters)) (length (take n t.states))
      place = rw (length-zip (take n t.clusters) (take n t.states)) at h

      shown : k < n
      shown = omega (arith, place, length-take n t.clusters)

      pair : get_or shown_pairs k (0, 0) ≡ (get_or t.clusters k 0, get_or t.states k 0)
      pair =
          get_or-zip (take n t.clusters) (take n t.states) k (0, 0) (omega (arith, place)) (omega (arith, place))
          ∙ ap₂ (λ (a b : ℕ). (a, b)) (get_or-take n t.clusters k 0 shown) (get_or-take n t.states k 0 shown)

      one : (b : Bool) → is_scored (row_at t k) ≡ b → {a : ℕ} → a ≡ leaves (down_to (row_at t) k)
          → fold joined a (cond b ((get_or t.clusters k 0, get_or t.states k 0) ∷ []) []) ≡ leaves (down_to (row_at t) (suc k))
      one true e q = ap (λ (x : ℕ). bit_or x (row_at t k).cluster) q ∙ leaves-scored (row_at t k) (down_to (row_at t) k) e
      one false e q = q ∙ leaves-unscored (row_at t k) (down_to (row_at t) k) e

  pub leaf_set_is : n ≡ shown_rows t → n ≤ length t.clusters → n ≤ length t.states → fold joined 0 (filter counts shown_pairs) ≡ leaf_set t
  leaf_set_is shown h k =
      sym (ap (λ (l : List (ℕ × ℕ)). fold joined 0 (filter counts l)) (take_all n shown_pairs (omega (arith, long))))
      ∙ leaves_to n (omega (arith, long)) ∙ ap (λ (k : ℕ). leaves (down_to (row_at t) k)) shown
    where
      long : length shown_pairs ≡ n
      long = length-zip (take n t.clusters) (take n t.states) ∙ omega (arith, length-take-le n t.clusters h, length-take-le n t.states k)
