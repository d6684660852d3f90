-- The loop of the search, turn by turn: what is in hand and what the i rows left add make up the sum over the covers.
--     scan_grows               a scan loses no tuple
--     Running                  what holds at the loop's head
--     running_all, running_ended            at the start, and where no row left reaches the highest taxon
--     running_skipped                       a row that adds nothing
--     plus_asks, running_added              a row that adds something: nothing overflows, and the loop goes on
-- Assumes nothing.
use mathlib.Core.Path.{◌≡◌, refl, sym, ap, ap₂, ◌∙◌, subst}
use mathlib.Core.Bool.{Bool, true, false, cond, ◌&&◌}
use mathlib.Core.Option.{none}
use mathlib.Core.List.{List, [], ◌∷◌, Memᴰ as Mem}
use Prim.Native.Nat.{ℕ, suc, ◌+◌, ◌-◌, ◌^◌, ◌≤◌, ◌<◌}
use native.Mathlib.Nat.{le_refl, le_trans}
use native.Mathlib.Omega.{arith}
use lib.Dec.{T}
use lib.ListN.{get_or}
use Rattle.laws.specs.Cluster.{inside, highest}
use Rattle.laws.specs.Limits.{degree_high, word_values}
use Rattle.laws.specs.State.{scored}
use Rattle.laws.proofs.Down.{mem_down}
use Rattle.trees.specs.Rows.{Entry, cl, sc}
use Rattle.trees.specs.Solution.{Res}
use Rattle.trees.proofs.Counting.Capped.{Counted}
use Rattle.trees.proofs.Searching.Leads.{leads}
use Rattle.trees.proofs.Counting.Worked.{counted-plus}
use Rattle.trees.proofs.Searching.Search.{scan, gain, search_more, scan_ended, scan_cons, scan_added, scan_unscored, scan_outside, scan_low}
use Rattle.table.specs.declared.tally.Tally.{Tally}
use Rattle.table.specs.Tally.{tally_of}
use Rattle.table.specs.Searched.{Searchable}
use Rattle.table.specs.Columns.{Columns, part_at, parts_of, sum_kind, sum_covers}
use Rattle.table.specs.Sums.{no_tally, plus_tally}
use Rattle.table.proofs.Tuples.Searched.{sum_covers_search}
use Rattle.table.proofs.Tallies.Counts.{tally_tuples, tally_count-le}
use Rattle.table.proofs.Tallies.Encoded.{tally_plus}
use Rattle.table.proofs.Tuples.Searchable.{taxon-fits, searched_fall, searched_few}
use Rattle.table.proofs.Tuples.SearchRow.{Adds}

scan_grows : (f : Entry Res → Res) (R : ℕ) (es : List (Entry Res)) (s : Res) → s.0 ≤ (scan sum_kind f R es s).0
scan_grows f R [] s = rw (scan_ended sum_kind f R s) (le_refl s.0)
scan_grows f R (e ∷ es) s =
    rw (scan_cons sum_kind f R e es s)
    (le_trans (go (sc e && leads (cl e) R)) (scan_grows f R es (cond (sc e && leads (cl e) R) (sum_kind.plus s (f e)) s)))
  where
    go : (b : Bool) → s.0 ≤ (cond b (sum_kind.plus s (f e)) s).0
    go true = omega arith
    go false = le_refl s.0

-- what a row adds, out of the first `end` rows
abbrev adds : Columns → ℕ → ℕ → ℕ → Entry Res → Res
adds k end R left = gain sum_kind (left - 1) R (parts_of k end)

pub record Running (limit : ℕ) (k : Columns) (starts : List ℕ) (end R left start : ℕ) (sum : Tally) (i : ℕ) : Type 0 where
  pub asked : Searchable limit k starts end R
  pub within : i ≤ end
  pub begins : start ≡ get_or starts (highest R) 0
  pub x : Res
  pub tally : sum ≡ tally_of limit x
  pub counted : Counted x.1
  pub left_over : scan sum_kind (adds k end R left) R (parts_of k i) x ≡ sum_covers left R (parts_of k end)

pub running_all : {limit : ℕ} {k : Columns} {starts : List ℕ} {end R left start : ℕ} {sum : Tally} → Searchable limit k starts end R
    → 2 ≤ left → start ≡ get_or starts (highest R) 0 → sum ≡ no_tally → Running limit k starts end R left start sum end
running_all {limit} {k} {starts} {end} {R} {left} s two e z = record {
  asked = s;
  within = le_refl end;
  begins = e;
  x = (0, none);
  tally = z;
  counted = tt;
  left_over =
      sym (sum_covers_search left R (parts_of k end) (searched_fall s) s.nonzero ∙ search_more sum_kind left R (parts_of k end) two);
}

module _ {limit : ℕ} {k : Columns} {starts : List ℕ} {end R left start : ℕ} {sum : Tally} {i : ℕ}
    (r : Running limit k starts end R left start sum i) where
  pub running_ended : i ≤ start → sum ≡ tally_of limit (sum_covers left R (parts_of k end))
  running_ended h =
      r.tally
      ∙ ap (tally_of limit) (sym (scan_low sum_kind (adds k end R left) R (parts_of k i) r.x r.asked.nonzero low) ∙ r.left_over)
    where
      low : (e : Entry Res) → Mem e (parts_of k i) → cl e < 2 ^ highest R
      low e m =
          let q = mem_down (part_at k) i e m in
          let b = r.asked.begins.each (highest R) (omega (arith, taxon-fits r.asked)) in
          omega (arith, ap cl q.2, b.less q.0 (omega (arith, q.1, r.begins)))

  -- ---- the next row

  module _ (some_left : start < i) where
    abbrev e : Entry Res
    e = part_at k (i - 1)

    -- the rows left, from y in hand
    abbrev rest : List (Entry Res) → Res → Res
    rest es y = scan sum_kind (adds k end R left) R es y

    -- what is in hand after the row is y, and the rows beneath add the rest to it
    left_after : (y : Res) → rest (e ∷ parts_of k (i - 1)) r.x ≡ rest (parts_of k (i - 1)) y
        → rest (parts_of k (i - 1)) y ≡ sum_covers left R (parts_of k end)
    left_after y h =
        let split : suc (i - 1) ≡ i = omega arith in
        sym h ∙ ap (λ (n : ℕ). rest (parts_of k n) r.x) split ∙ r.left_over

    after : (y : Res) {t : Tally} → t ≡ tally_of limit y → Counted y.1
        → rest (e ∷ parts_of k (i - 1)) r.x ≡ rest (parts_of k (i - 1)) y → Running limit k starts end R left start t (i - 1)
    after y q c h = record {
      asked = r.asked;
      within = omega (arith, r.within);
      begins = r.begins;
      x = y;
      tally = q;
      counted = c;
      left_over = left_after y h;
    }

    running_outside : inside (get_or k.clusters (i - 1) 0) R ≡ false → Running limit k starts end R left start sum (i - 1)
    running_outside h =
        after r.x r.tally r.counted
        (scan_outside sum_kind (adds k end R left) R e (parts_of k (i - 1)) r.x (λ t. subst T h t))

    running_unscored : scored (get_or k.states (i - 1) 0) ≡ false → Running limit k starts end R left start sum (i - 1)
    running_unscored h =
        after r.x r.tally r.counted
        (scan_unscored sum_kind (adds k end R left) R e (parts_of k (i - 1)) r.x (λ t. subst T h t))

    -- a row that isn't both
    pub running_skipped : (inside (get_or k.clusters (i - 1) 0) R && scored (get_or k.states (i - 1) 0)) ≡ false
        → Running limit k starts end R left start sum (i - 1)
    running_skipped h = go (inside (get_or k.clusters (i - 1) 0) R) refl h
      where
        go : (b : Bool) → inside (get_or k.clusters (i - 1) 0) R ≡ b → (b && scored (get_or k.states (i - 1) 0)) ≡ false
            → Running limit k starts end R left start sum (i - 1)
        go true e h = running_unscored h
        go false e h = running_outside e

    module _ {t : Tally} (a : Adds limit k end R left (i - 1) t) where
      abbrev z : Res
      z = sum_kind.plus r.x a.g

      more : rest (e ∷ parts_of k (i - 1)) r.x ≡ rest (parts_of k (i - 1)) z
      more =
          scan_added sum_kind (adds k end R left) R e (parts_of k (i - 1)) r.x a.scored a.leads
          ∙ ap (λ (y : Res). rest (parts_of k (i - 1)) (sum_kind.plus r.x y)) a.gains

      pub plus_asks : left < degree_high → (t.count ≤ limit) × (sum.tuples + t.tuples < word_values)
      plus_asks h =
          let in-hand = ap (λ (v : Tally). v.tuples) r.tally ∙ tally_tuples limit r.x.0 r.x.1 in
          let onto = ap (λ (v : Tally). v.tuples) a.tally ∙ tally_tuples limit a.g.0 a.g.1 in
          let whole = searched_few r.asked left h in
          let grown = subst (λ (v : Res). z.0 ≤ v.0) (left_after z more)
          (scan_grows (adds k end R left) R (parts_of k (i - 1)) z) in
          let count = subst (λ (v : Tally). v.count ≤ limit) (sym a.tally) (tally_count-le limit a.g) in
          (count, omega (arith, in-hand, onto, whole, grown))

      pub running_added : {v : Tally} → v ≡ plus_tally limit sum t → Running limit k starts end R left start v (i - 1)
      running_added d =
          after z (d ∙ ap₂ (plus_tally limit) r.tally a.tally ∙ plus)
          (counted-plus r.x.1 a.g.1 r.counted a.counted) more
        where
          plus : plus_tally limit (tally_of limit r.x) (tally_of limit a.g) ≡ tally_of limit z
          plus = tally_plus limit r.asked.readable.sound.one r.x a.g r.counted a.counted
