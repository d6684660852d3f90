-- The invariant of `members::marks::members_of`: the marked ones of the first i rows are gathered, each being scored. Assumes nothing.
use Rattle.std.proofs.Common.{◌+◌, ◌*◌}
use Rattle.laws.specs.Limits.{word_values}
use Rattle.members.specs.Gathered.{Gathered}
use Rattle.members.proofs.marks.members_of.Given as goal

abbrev pub invariant-loop-i : goal.invariant-loop-i
invariant-loop-i l = Gathered l.t (l.low + word_values * l.high) l.i l.members
