-- The measure of the calls of `table::searching::search` is the children left. The invariant is `Running`: what is in hand is the tally of
-- a result to which the rows left add up to the sum over the covers. Assumes nothing.
use Rattle.laws.specs.Limits.{narrow}
use Rattle.table.specs.Columns.{columns_of}
use Rattle.table.proofs.Tuples.Running.{Running}
use Rattle.table.proofs.searching.+search.Given as goal

abbrev pub decreases-search : goal.decreases-search
decreases-search l = l.left

abbrev pub invariant-loop-i : goal.invariant-loop-i
invariant-loop-i l = Running narrow.count_max (columns_of l.t) l.starts l.end l.rest l.left l.start l.sum l.i
