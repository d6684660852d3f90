-- The mark of a row that is worked out is 0 or 1, whatever it is worked out from.
--     worked-mark-le     so it is of the code's form of the row
-- Assumes nothing.
use mathlib.Core.Bool.{Bool, true, false, cond}
use Prim.Native.Nat.{ℕ, ◌*◌, ◌/◌, ◌≤◌}
use native.Mathlib.Omega.{arith}
use lib.Dec.{eqb, ltb}
use lib.IntN.{ℤ, ◌+ℤ◌}
use lib.ListN.{get_or}
use Rattle.laws.specs.Cluster.{single}
use Rattle.laws.specs.Limits.{Width}
use Rattle.laws.specs.State.{scored}
use Rattle.table.specs.declared.tally.Count.{Count}
use Rattle.table.specs.declared.tally.Tally.{Tally}
use Rattle.table.specs.Columns.{Columns}
use Rattle.table.specs.Tally.{own_tally}
use Rattle.table.specs.Working.{found_tally, worked_tally}
use Rattle.table.specs.Sums.{no_tally, many_count, exact_count, capped_product, with_tuples, join_tally, under_tally}

counted-mark : (c d e f g : Bool) (limit n : ℕ)
    → (cond c (exact_count 0) (cond d (exact_count 0) (cond e (many_count limit) (cond f (many_count limit) (cond g (many_count limit) (exact_count n)))))).mark ≤ 1
counted-mark true d e f g limit n = omega arith
counted-mark false true e f g limit n = omega arith
counted-mark false false true f g limit n = omega arith
counted-mark false false false true g limit n = omega arith
counted-mark false false false false true limit n = omega arith
counted-mark false false false false false limit n = omega arith

joined-mark : (none : Bool) (a b : Tally) (n : Count) (z : ℤ) → n.mark ≤ 1 → (cond none (with_tuples no_tally b.tuples) (join_tally a b n z)).mark ≤ 1
joined-mark true a b n z h = omega arith
joined-mark false a b n z h = h

pair-mark : (limit : ℕ) (a b : Tally) → (capped_product limit a b).mark ≤ 1
unfolding capped_product
pair-mark limit a b =
    counted-mark (eqb a.count 0) (eqb b.count 0) (eqb a.mark 1) (eqb b.mark 1) (ltb (limit / b.count) a.count) limit (a.count * b.count)

under-mark : (limit : ℕ) (a b : Tally) → (under_tally limit a b).mark ≤ 1
unfolding under_tally
under-mark limit a b =
    joined-mark (eqb (capped_product limit a b).count 0) a b (capped_product limit a b) (a.best +ℤ b.best) (pair-mark limit a b)

worked-mark : (s t : Bool) (own under : Tally) → own.mark ≤ 1 → under.mark ≤ 1 → (cond s (cond t own under) no_tally).mark ≤ 1
worked-mark true true own under h k = h
worked-mark true false own under h k = k
worked-mark false t own under h k = omega arith

pub worked-mark-le : (W : Width) (k : Columns) (z : ℤ) (i d : ℕ) → (worked_tally W k z i d).mark ≤ 1
worked-mark-le W k z i d =
    let found = found_tally W k i d in
    worked-mark (scored (get_or k.states i 0)) (single (get_or k.clusters i 0)) (own_tally 0 z i)
    (under_tally W.count_max (own_tally 1 z i) found) (omega arith) (under-mark W.count_max (own_tally 1 z i) found)
