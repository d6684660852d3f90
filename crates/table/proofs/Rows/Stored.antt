-- The results of one row stored in a table: what changes, and what doesn't.
--     result_in r           a tally as the fields of a row
--     stored t i r         the table with the results r in row i
--     stored_same, stored_other, stored_entries, stored_sized
-- Assumes nothing.
use mathlib.Core.Path.{◌≡◌, sym, ◌∙◌, subst}
use mathlib.Core.Logic.{◌≢◌}
use Prim.Native.Nat.{ℕ, ◌+◌, ◌*◌, ◌≤◌, ◌<◌}
use native.Mathlib.Omega.{arith}
use lib.IntN.{pos}
use lib.ListN.{set, length-set}
use lib.Seq.{get_or-set_same, get_or-set_other}
use Rattle.laws.proofs.Down.{down_ext}
use Rattle.trees.specs.Result.{Result}
use Rattle.kept.specs.declared.table.Table.{Table}
use Rattle.laws.specs.Limits.{row_cap, word_values}
use Rattle.kept.specs.View.{row_at, entry_at, entries_of}
use Rattle.kept.specs.Arrays.{Sized}
use Rattle.table.specs.declared.tally.Tally.{Tally}

abbrev pub result_in : Tally → Result
result_in r = record { length = r.tuples; count = r.count; mark = r.mark; best = r.best; members = r.low + word_values * r.high }

abbrev pub stored : Table → ℕ → Tally → Table
stored t i r = record {
  degree = t.degree;
  rows = t.rows;
  clusters = t.clusters;
  weights = t.weights;
  states = t.states;
  lengths = set t.lengths i r.tuples;
  counts = set t.counts i r.count;
  marks = set t.marks i r.mark;
  bests = set t.bests i r.best;
  members_low = set t.members_low i r.low;
  members_high = set t.members_high i r.high;
}

pub stored_same : (t : Table) (i : ℕ) (r : Tally) → Sized t → i < row_cap
    → entry_at (stored t i r) i ≡ record { row = row_at t i; val = result_in r }
stored_same t i r s h = λ k. record {
  row = row_at t i;
  val = record {
    length = get_or-set_same t.lengths i r.tuples 0 (subst (λ (n : ℕ). i < n) (sym s.lengths) h) k;
    count = get_or-set_same t.counts i r.count 0 (subst (λ (n : ℕ). i < n) (sym s.counts) h) k;
    mark = get_or-set_same t.marks i r.mark 0 (subst (λ (n : ℕ). i < n) (sym s.marks) h) k;
    best = get_or-set_same t.bests i r.best (pos 0) (subst (λ (n : ℕ). i < n) (sym s.bests) h) k;
    members = get_or-set_same t.members_low i r.low 0 (subst (λ (n : ℕ). i < n) (sym s.lows) h) k
        + word_values * get_or-set_same t.members_high i r.high 0 (subst (λ (n : ℕ). i < n) (sym s.highs) h) k;
  };
}

pub stored_other : (t : Table) (i j : ℕ) (r : Tally) → j ≢ i → entry_at (stored t i r) j ≡ entry_at t j
stored_other t i j r n = λ k. record {
  row = row_at t j;
  val = record {
    length = get_or-set_other t.lengths i j r.tuples 0 n k;
    count = get_or-set_other t.counts i j r.count 0 n k;
    mark = get_or-set_other t.marks i j r.mark 0 n k;
    best = get_or-set_other t.bests i j r.best (pos 0) n k;
    members = get_or-set_other t.members_low i j r.low 0 n k + word_values * get_or-set_other t.members_high i j r.high 0 n k;
  };
}

pub stored_entries : (t : Table) (i : ℕ) (r : Tally) (n : ℕ) → n ≤ i → entries_of (stored t i r) n ≡ entries_of t n
stored_entries t i r n h = down_ext (entry_at (stored t i r)) (entry_at t) n (λ j k. stored_other t i j r (λ e. omega arith))

pub stored_sized : (t : Table) (i : ℕ) (r : Tally) → Sized t → Sized (stored t i r)
stored_sized t i r s = record {
  clusters = s.clusters;
  weights = s.weights;
  states = s.states;
  lengths = length-set t.lengths i r.tuples ∙ s.lengths;
  counts = length-set t.counts i r.count ∙ s.counts;
  marks = length-set t.marks i r.mark ∙ s.marks;
  bests = length-set t.bests i r.best ∙ s.bests;
  lows = length-set t.members_low i r.low ∙ s.lows;
  highs = length-set t.members_high i r.high ∙ s.highs;
}
