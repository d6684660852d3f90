-- `table::searching::search` meets its contract: at each turn of the loop the row that leads what is left adds what the covers with it sum
-- to, and other rows add nothing. Assumes nothing.
use Rattle.std.proofs.Common.{◌≡◌, true, ◌&&◌, List, ℕ, ◌-◌, ◌<◌, get_or, refl, sym, ap, ◌∙◌, subst, ◌+◌, arith}
use Rattle.kept.proofs.Laws.Marks.{highest-lt}
use Rattle.laws.specs.Cluster.{inside}
use Rattle.laws.specs.State.{scored}
use Rattle.laws.proofs.Cluster.{le_of_inside}
use Rattle.laws.proofs.Tests.{T_and, T_true, true_T}
use Rattle.table.specs.declared.tally.Tally.{Tally}
use Rattle.laws.specs.Limits.{narrow}
use Rattle.table.specs.Columns.{Columns, columns_of, parts_of, sum_covers}
use Rattle.table.specs.Searched.{Searchable}
use Rattle.table.specs.Tally.{tally_of}
use Rattle.table.proofs.Tuples.Searchable.{taxon-fits, start_past}
use Rattle.table.proofs.Tuples.SearchRow.{Led, Adds, whole_adds, inner_asks, under_asks, part_adds}
use Rattle.table.proofs.Tuples.Running.{Running, running_all, running_ended, running_skipped, running_added, plus_asks}
use Rattle.table.proofs.searching.+search.Goals as goal
use Rattle.table.proofs.searching.+search.Goals.{After-from-next, Joined-other-eq0, then-other-eq0, else-other-eq0, then-left-eq2, else-left-eq2}

-- the row that the loop looks at leads what is left
led_of : {limit : ℕ} {k : Columns} {starts : List ℕ} {end R left start i : ℕ} {sum : Tally} → Running limit k starts end R left start sum i
    → start < i → true ≡ (inside (get_or k.clusters (i - 1) 0) R && scored (get_or k.states (i - 1) 0))
    → Led limit k starts end R (i - 1)
led_of {limit} {k} {starts} {end} {R} {left} {start} {i} r more e =
    let lies = inside (get_or k.clusters (i - 1) 0) R in
    let counts = scored (get_or k.states (i - 1) 0) in
    let both = T_and lies counts (true_T (sym e)) in
    record {
      asked = r.asked;
      place = omega (arith, r.within, more);
      reached = omega (arith, r.begins, more);
      within = T_true lies both.0;
      scored = T_true counts both.1;
    }

-- the sum over the covers of R by one row fewer, of the rows below n
abbrev summed : ℕ → Columns → ℕ → ℕ → ℕ → Tally
summed limit k left R n = tally_of limit (sum_covers (left - 1) R (parts_of k n))

-- what is looked up where one child is left, and what is found where more are, as such a sum
module _ (limit : ℕ) (k : Columns) (left R : ℕ) {m n : ℕ} (e : m ≡ n) {found : Tally} where
  looked_up : left ≡ 2 → found ≡ tally_of limit (sum_covers 1 R (parts_of k m)) → found ≡ summed limit k left R n
  looked_up two q = let one : left - 1 ≡ 1 = omega arith in rw one (q ∙ ap (λ (j : ℕ). tally_of limit (sum_covers 1 R (parts_of k j))) e)

  searched : found ≡ summed limit k left R m → found ≡ summed limit k left R n
  searched q = q ∙ ap (summed limit k left R) e

pub bounds-starts-highest : goal.bounds-starts-highest
bounds-starts-highest t c = omega (arith, c.highest.ensures, taxon-fits c.requires.searchable)

pub loop-i-init : goal.loop-i-init
loop-i-init t c =
    running_all c.requires.searchable c.requires.le_left.0
    (c.from-start.ensures ∙ ap (λ (h : ℕ). get_or c.args.starts.now h 0) c.highest.ensures) refl

-- ---- the row is a part of what is left

pub overflow_sub-other : goal.overflow_sub-other
overflow_sub-other t c = le_of_inside _ _ (T_and _ _ (true_T (sym c.if-is_part.ensures))).0

-- whatever row was taken: what is left is a number of 64 bits
pub bounds-starts-top : goal.bounds-starts-top
bounds-starts-top t c =
    let other : ℕ = c.args.rest - get_or c.args.t.now.clusters (c.loop-i.i - 1) 0 in
    let low = highest-lt 64 other (omega (arith, c.if-other-eq0.false)) (omega (arith, c.requires.searchable.small)) in
    omega (arith, low, c.highest-top.ensures)

pub bounds-starts-top-then-left-eq2 : goal.bounds-starts-top-then-left-eq2
bounds-starts-top-then-left-eq2 t c =
    let other : ℕ = c.args.rest - get_or c.args.t.now.clusters (c.loop-i.i - 1) 0 in
    let low = highest-lt 64 other (omega (arith, c.if-other-eq0.false)) (omega (arith, c.requires.searchable.small)) in
    omega (arith, low, c.highest-top.ensures)

-- what the search of the rest may count on
inner : (t : ℕ) (c : goal.After-from-next t)
    → let a = c.args in
    Searchable narrow.count_max (columns_of a.t.now) a.starts.now c.from-next.result (a.rest - get_or a.t.now.clusters (c.loop-i.i - 1) 0)
inner t c =
    let a = c.args in
    subst (λ (n : ℕ). Searchable narrow.count_max (columns_of a.t.now) a.starts.now n (a.rest - get_or a.t.now.clusters (c.loop-i.i - 1) 0))
    (sym c.from-next.ensures)
    (inner_asks a.left (led_of c.loop-i.invariant c.loop-i-test.true c.if-is_part.ensures) c.if-other-eq0.false c.highest-top.ensures)

pub last-inner-requires-clause-readable : goal.last-inner-requires-clause-readable
last-inner-requires-clause-readable t c = (inner t ((goal.at.last-inner-requires-clause-readable t c).After-from-next)).readable

pub last-inner-requires-clause-past : goal.last-inner-requires-clause-past
last-inner-requires-clause-past t c =
    start_past (inner t ((goal.at.last-inner-requires-clause-past t c).After-from-next)) _
    (c.from.ensures ∙ ap (λ (h : ℕ). get_or c.args.starts.now h 0) c.highest-top.ensures)

pub search-inner-requires : goal.search-inner-requires
search-inner-requires t c =
    let more = c.requires.le_left in (
      omega (arith, c.decreases, more.0),
      (inner t ((goal.at.search-inner-requires t c).After-from-next), (omega (arith, more.0, c.if-left-eq2.false), omega (arith, more.1))),
    )

pub under-added-requires : goal.under-added-requires
under-added-requires t c =
    let a = c.args in
    let other = a.rest - get_or a.t.now.clusters (c.loop-i.i - 1) 0 in
    let next = get_or a.starts.now (c.highest-top.result + 1) 0 in
    let found : c.if-left-eq2.inner ≡ summed narrow.count_max (columns_of a.t.now) a.left other next =
    elim c.if-left-eq2.branch [
      | then-left-eq2 w ↦ w.inner-is ∙ looked_up _ _ _ _ c.from-next.ensures w.if-left-eq2.true w.last-inner.ensures
      | else-left-eq2 w ↦ w.inner-is ∙ searched _ _ _ _ c.from-next.ensures w.search-inner.ensures
    ] in
    let fits =
    under_asks c.args.left (led_of c.loop-i.invariant c.loop-i-test.true c.if-is_part.ensures) c.if-other-eq0.false c.highest-top.ensures
    c.part-one.ensures found in
    record { sfits = fits.0; low_bound = fits.1.0; high_bound = fits.1.1 }

-- ---- what the row adds

adds : (t : ℕ) (c : goal.Joined-other-eq0 t)
    → let a = c.args in Adds narrow.count_max (columns_of a.t.now) a.end a.rest a.left (c.loop-i.i - 1) c.if-other-eq0.added
adds t c =
    let q = led_of c.loop-i.invariant c.loop-i-test.true c.if-is_part.ensures in
    elim c.if-other-eq0.branch [
      | then-other-eq0 w ↦ whole_adds c.args.left q (w.added-is ∙ c.part-one.ensures) w.if-other-eq0.true
      | else-other-eq0 w ↦
          part_adds c.args.left q w.if-other-eq0.false w.highest-top.ensures c.part-one.ensures
          (elim w.if-left-eq2.branch [
            | then-left-eq2 v ↦ v.inner-is ∙ looked_up _ _ _ _ w.from-next.ensures v.if-left-eq2.true v.last-inner.ensures
            | else-left-eq2 v ↦ v.inner-is ∙ searched _ _ _ _ w.from-next.ensures v.search-inner.ensures
          ]) (w.added-is ∙ w.under-added.ensures)
    ]

pub plus-sum-requires : goal.plus-sum-requires
plus-sum-requires t c =
    let asks =
    plus_asks c.loop-i.invariant c.loop-i-test.true (adds t ((goal.at.plus-sum-requires t c).Joined-other-eq0)) c.requires.le_left.1 in
    record { count_le_limit = asks.0; tuples_bound = asks.1 }

pub loop-i-preserved-then-is_part : goal.loop-i-preserved-then-is_part
loop-i-preserved-then-is_part t c =
    running_added c.loop-i.invariant c.loop-i-test.true (adds t ((goal.at.loop-i-preserved-then-is_part t c).Joined-other-eq0))
    c.plus-sum.ensures

-- ---- a row that adds nothing

pub loop-i-preserved : goal.loop-i-preserved
loop-i-preserved t c = running_skipped c.loop-i.invariant c.loop-i-test.true (sym c.if-is_part.ensures)

pub returns : goal.returns
returns t c = running_ended c.loop-i.invariant c.loop-i-test.false
