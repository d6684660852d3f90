-- The invariant of `table::working::again`: the results of the first rows are the given ones worked out again, and the rest is as given.
-- Assumes nothing.
use Rattle.laws.specs.Limits.{narrow}
use Rattle.table.proofs.Rows.AgainRow.{Partly}
use Rattle.table.proofs.working.again.Given as goal

abbrev pub invariant-loop-i : goal.invariant-loop-i
invariant-loop-i l = Partly narrow l.initial.t l.cluster l.t l.i
