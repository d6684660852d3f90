-- The invariant of `drawing::drawing::put_clusters`: the first i clusters are copied. Assumes nothing.
use Rattle.std.proofs.Common.{◌≡◌, ◌++◌, take, drop}
use Rattle.drawing.proofs.drawing.put_clusters.Given as goal

abbrev pub invariant-loop-i : goal.invariant-loop-i
invariant-loop-i l = l.room ≡ take l.i l.clusters ++ drop l.i l.initial.room
