-- A fit row and a fit table as facts. The results of a row: `Results.antt`.
--     cluster_pos                       a cluster that keeps the record rules has a taxon
--     fit→, →fit, fit-rules     a fit row
--     row_in, fit_in     row i as it is read out of a table, and that the tests of it are those of the row
--     right→, →right, right-more, right_stop, right-none     all rows; the same from the last down
--     right_is                          the same as the code goes through them
--     is_fit→, →is_fit, unfit     a fit table
--     fit_tests                         the test as the code makes it
--     fit-rows                          where degree bound, number and clusters are right, the rows tell
--     fit-falls, fit-each, entries_rising     a fit table by the entries of its rows
-- Assumes nothing.
use mathlib.Core.Path.{◌≡◌, refl, sym, ap, ap₂, ◌∙◌, subst}
use mathlib.Core.Bool.{Bool, true, false, ◌&&◌}
use mathlib.Core.List.{List}
use mathlib.Core.List.{Memᴰ as Mem}
use Prim.Native.Nat.{ℕ, ◌-◌, ◌≤◌, ◌<◌}
use native.Mathlib.Decide.{dec_le}
use native.Mathlib.Nat.{pos_of_ne-zero}
use native.Mathlib.Omega.{arith}
use borrow.Author.Tests.{le-leb, lt-leb}
use lib.Dec.{T, leb, leb→le, le→leb}
use lib.ListN.{get_or, length, take}
use Rattle.std.specs.List.{list_all}
use Rattle.std.proofs.lemmas.List.{get_or-take, length-take-le}
use Rattle.laws.specs.Limits.{Width, is_degree, row_cap}
use Rattle.laws.specs.Orders.{Falling}
use Rattle.laws.specs.Row.{Row}
use Rattle.laws.specs.Widths.{WidthFacts}
use Rattle.laws.proofs.Downward.{from_end, all→, →all}
use Rattle.laws.proofs.Down.{mem_down, every→down, down→every, down_passed, down_stopped, falling_down, down_falling}
use Rattle.laws.proofs.Tests.{T_and, and_T, T_true, T_false, bool_ext}
use Rattle.cluster.specs.Rule.{keeps_rules}
use Rattle.cluster.proofs.Laws.Rule.{rules→, →rules}
use Rattle.trees.specs.Rows.{Entry}
use Rattle.trees.specs.Result.{Result}
use Rattle.kept.specs.Blank.{is_empty}
use Rattle.kept.specs.declared.table.Table.{Table}
use Rattle.kept.specs.Facts.{FitRow, FitTable}
use Rattle.kept.specs.View.{entry_at, entries_of, clusters_in, clusters_down}
use Rattle.kept.specs.Results.{is_ranged, is_matched}
use Rattle.kept.specs.Fit.{fit_entry, is_rising, is_row_right, has_right_rows, is_fit}
use Rattle.kept.specs.declared.fields.Fields.{Fields}
use Rattle.kept.specs.Fields.{entry_in, AtRow}
use Rattle.kept.specs.Arrays.{Rising}
use Rattle.kept.proofs.Laws.Blank.{empty_entry, entry_empty}
use Rattle.kept.proofs.Laws.Clusters.{clusters_are, Ascends, is_rising→, →is_rising, first_down, first_rising, first_ascend}
use Rattle.kept.proofs.Laws.Results.{ranged→, →ranged, matched→, →matched}

-- ---- a row
module _ (W : Width) (r : Row) where
  pub cluster_pos : T (keeps_rules W r) → 0 < r.cluster
  cluster_pos h = pos_of_ne-zero (rules→ W r h).1.has_taxon_lem

module _ (W : Width) (cs : List ℕ) (e : Entry Result) where
  pub fit-rules : T (fit_entry W cs e) → T (keeps_rules W e.row)
  fit-rules h = (T_and (keeps_rules W e.row) _ h).0

  pub fit→ : T (fit_entry W cs e) → FitRow W cs e.row e.val
  fit→ h =
      let p = T_and (keeps_rules W e.row) _ h in
      let k = rules→ W e.row p.0 in
      let q = T_and (is_ranged W e.row e.val) (is_matched cs e.row e.val) p.1 in record {
        width = k.0;
        rules = k.1;
        ranged = ranged→ W e.row e.val q.0;
        matched = matched→ cs e.row e.val q.1;
      }

  pub →fit : FitRow W cs e.row e.val → T (fit_entry W cs e)
  →fit f =
      and_T (keeps_rules W e.row) _ (→rules W e.row f.width f.rules)
      (and_T (is_ranged W e.row e.val) _ (→ranged W e.row e.val f.ranged) (→matched cs e.row e.val f.matched))

-- row i as it is read out of a table
pub row_in : (t : Table) (i : ℕ) (r : Fields) → Rising t.clusters t.rows → t.rows ≤ row_cap → i < t.rows → entry_in r ≡ entry_at t i
    → AtRow (take t.rows t.clusters) i r
row_in t i r rises capped h e = record {
  rising = first_ascend t.clusters t.rows rises;
  capped = omega (arith, long);
  place = omega (arith, long);
  own = ap (λ (x : Entry Result). x.row.cluster) e ∙ sym (get_or-take t.rows t.clusters i 0 h);
}
  where
    long : length (take t.rows t.clusters) ≡ t.rows
    long = length-take-le t.rows t.clusters rises.long

pub fit_in : (W : Width) (t : Table) (i : ℕ) (r : Fields) → t.rows ≤ length t.clusters → entry_in r ≡ entry_at t i
    → fit_entry W (clusters_down (take t.rows t.clusters) (length (take t.rows t.clusters))) (entry_in r)
    ≡ fit_entry W (clusters_in t) (entry_at t i)
fit_in W t i r h e = ap₂ (fit_entry W) (first_down t.clusters t.rows h ∙ sym (clusters_are t t.rows)) e

-- ---- all rows
module _ (W : Width) (cs : List ℕ) (t : Table) (n : ℕ) where
  abbrev is_right : ℕ → Bool
  is_right i = is_row_right W cs n i (entry_at t i)

  pub right→ : (k : ℕ) → T (has_right_rows W cs t n k) → (i : ℕ) → i < k → T (is_row_right W cs n i (entry_at t i))
  unfolding has_right_rows
  right→ k = every→down is_right (λ (i : ℕ). i) k

  pub →right : (k : ℕ) → ((i : ℕ) → i < k → T (is_row_right W cs n i (entry_at t i))) → T (has_right_rows W cs t n k)
  unfolding has_right_rows
  →right k = down→every is_right (λ (i : ℕ). i) k

  pub right-more : (i : ℕ) → 0 < i → is_row_right W cs n (i - 1) (entry_at t (i - 1)) ≡ true
      → has_right_rows W cs t n i ≡ has_right_rows W cs t n (i - 1)
  unfolding has_right_rows
  right-more = down_passed is_right (λ (i : ℕ). i)

  pub right_stop : (i : ℕ) → 0 < i → is_row_right W cs n (i - 1) (entry_at t (i - 1)) ≡ false → has_right_rows W cs t n i ≡ false
  unfolding has_right_rows
  right_stop = down_stopped is_right (λ (i : ℕ). i)

  pub right-none : has_right_rows W cs t n 0 ≡ true
  unfolding has_right_rows
  right-none = refl

  -- the rows are fit, and the places past them empty, as the code goes through them
  abbrev fits : ℕ → Bool
  fits i = fit_entry W cs (entry_at t i)

  abbrev empties : ℕ → Bool
  empties i = is_empty (entry_at t i)

  pub right_is : n ≤ row_cap
      → (list_all empties (from_end n (row_cap - n)) && list_all fits (from_end 0 n)) ≡ has_right_rows W cs t n row_cap
  right_is h = bool_ext _ _ to from
    where
      to : T (list_all empties (from_end n (row_cap - n)) && list_all fits (from_end 0 n)) → T (has_right_rows W cs t n row_cap)
      to k = →right row_cap (λ i l. go i l (dec_le n i))
        where
          both : T (list_all empties (from_end n (row_cap - n))) × T (list_all fits (from_end 0 n))
          both = T_and (list_all empties (from_end n (row_cap - n))) _ k

          go : (i : ℕ) → i < row_cap → Dec (n ≤ i) → T (is_right i)
          go i l (yes m) = rw (le-leb n i m) (all→ empties n (row_cap - n) both.0 i m (omega arith))
          go i l (no m) = rw (lt-leb n i (omega arith)) (all→ fits 0 n both.1 i (omega arith) (omega arith))

      from : T (has_right_rows W cs t n row_cap) → T (list_all empties (from_end n (row_cap - n)) && list_all fits (from_end 0 n))
      from k =
          and_T (list_all empties (from_end n (row_cap - n))) _
          (→all empties n (row_cap - n) (λ i l m. rw (le-leb n i l) at (right→ row_cap k i (omega arith))))
          (→all fits 0 n (λ i l m. let i_lt : i < n = omega arith in rw (lt-leb n i i_lt) at (right→ row_cap k i (omega arith))))

-- ---- a table
module _ (W : Width) (facts : WidthFacts W) (t : Table) where
  pub is_fit→ : T (is_fit W t) → FitTable W t
  unfolding is_fit
  is_fit→ h =
      let a = T_and (is_degree t.degree) _ h in
      let b = T_and (leb 1 t.rows) _ a.1 in
      let c = T_and (leb t.rows W.rows) _ b.1 in
      let e = T_and (is_rising t.clusters t.rows) _ c.1 in
      let most = leb→le t.rows W.rows c.0 in
      let right = right→ W (clusters_in t) t t.rows row_cap e.1 in record {
        bounds = record { degree = a.0; filled = leb→le _ _ b.0; capped = most };
        rising = is_rising→ t.clusters t.rows e.0;
        fit = λ i l. fit→ W (clusters_in t) (entry_at t i) (rw (lt-leb t.rows i l) at (right i (omega (arith, facts.rows, most))));
        past = λ i l m. empty_entry t i (rw (le-leb t.rows i l) at (right i m));
      }

  pub unfit : (FitTable W t → ⊥) → is_fit W t ≡ false
  unfit f = T_false (is_fit W t) (λ h. f (is_fit→ h))

module _ (W : Width) (t : Table) where
  pub →is_fit : FitTable W t → T (is_fit W t)
  unfolding is_fit
  →is_fit f =
      and_T (is_degree t.degree) _ f.bounds.degree
      (and_T (leb 1 t.rows) _ (le→leb _ _ f.bounds.filled)
      (and_T (leb t.rows W.rows) _ (le→leb _ _ f.bounds.capped)
      (and_T (is_rising t.clusters t.rows) _ (→is_rising t.clusters t.rows f.rising)
      (→right W (clusters_in t) t t.rows row_cap (λ i l. go i l (dec_le t.rows i))))))
    where
      go : (i : ℕ) → i < row_cap → Dec (t.rows ≤ i) → T (is_row_right W (clusters_in t) t.rows i (entry_at t i))
      go i l (yes h) = rw (le-leb t.rows i h) (entry_empty (f.past i h l))
      go i l (no h) = rw (lt-leb t.rows i (omega arith)) (→fit W (clusters_in t) (entry_at t i) (f.fit i (omega arith)))

  -- the tests, where it is told whether the clusters ascend
  abbrev tests_of : Bool → Bool
  tests_of rises =
      is_degree t.degree && (leb 1 t.rows && (leb t.rows W.rows && (rises && has_right_rows W (clusters_in t) t t.rows row_cap)))

  -- as the code makes them: the clusters of the rows by themselves
  pub fit_tests : W.rows ≤ row_cap → length t.clusters ≡ row_cap
      → is_fit W t ≡ tests_of (is_rising (take t.rows t.clusters) (length (take t.rows t.clusters)))
  unfolding is_fit
  fit_tests room long = go (dec_le t.rows W.rows)
    where
      go : Dec (t.rows ≤ W.rows)
          → tests_of (is_rising t.clusters t.rows) ≡ tests_of (is_rising (take t.rows t.clusters) (length (take t.rows t.clusters)))
      go (yes h) = ap tests_of (sym (first_rising t.clusters t.rows (omega arith)))
      go (no h) = let e = lt-leb t.rows W.rows (omega arith) in rw e

  -- where degree bound, number and clusters are right, the rows tell
  pub fit-rows : T (is_degree t.degree) → 1 ≤ t.rows → t.rows ≤ W.rows → is_rising t.clusters t.rows ≡ true
      → is_fit W t ≡ has_right_rows W (clusters_down t.clusters t.rows) t t.rows row_cap
  unfolding is_fit
  fit-rows degree some capped rising =
      rw (T_true (is_degree t.degree) degree, le-leb _ _ some, le-leb _ _ capped, rising, clusters_are t t.rows)

  -- ---- by the entries of the rows
  pub fit-falls : FitTable W t → Falling (clusters_in t)
  fit-falls f = rw (clusters_are t t.rows) (down_falling (λ (i : ℕ). get_or t.clusters i 0) t.rows f.rising)

  pub fit-each : FitTable W t → (e : Entry Result) → Mem e (entries_of t t.rows) → T (fit_entry W (clusters_in t) e)
  fit-each f e m =
      let q = mem_down (entry_at t) t.rows e m in rw q.2 (→fit W (clusters_in t) (entry_at t q.0) (f.fit q.0 q.1))

pub entries_rising : (t : Table) → Falling (clusters_in t) → Ascends t.clusters t.rows
entries_rising t f = falling_down (λ (i : ℕ). get_or t.clusters i 0) t.rows (subst Falling (clusters_are t t.rows) f)
