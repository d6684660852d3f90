-- The measure of the calls of `drawing::writing::add_part` is the part as a number, since a child is a smaller one; that of its loop is what
-- is left of the part. The invariant is `Writing`: what is written and what is left to write is the whole. Assumes nothing.
use Rattle.drawing.proofs.Written.{Writing}
use Rattle.drawing.proofs.writing.+add_part.Given as goal

abbrev pub decreases-add_part : goal.decreases-add_part
decreases-add_part l = l.part

abbrev pub invariant-loop-left : goal.invariant-loop-left
invariant-loop-left l = Writing l.xs l.part l.initial.longer l.longer l.left

abbrev pub decreases-loop-left : goal.decreases-loop-left
decreases-loop-left l = l.left
