-- The invariant of `kept::marks::is_word_fit`: each set bit of the word passes where each of the rest does, and the rest is no larger. The
-- measure is the rest. Assumes nothing.
use Rattle.std.proofs.Common.{◌≡◌, ◌≤◌}
use Rattle.kept.specs.Fields.{every_bit, is_mark_fit}
use Rattle.kept.proofs.marks.is_word_fit.Given as goal

abbrev pub invariant-loop-rest : goal.invariant-loop-rest
invariant-loop-rest l =
    let fit = is_mark_fit l.clusters l.cluster l.base in (l.rest ≤ l.word) × (every_bit l.word 64 fit ≡ every_bit l.rest 64 fit)

abbrev pub decreases-loop-rest : goal.decreases-loop-rest
decreases-loop-rest l = l.rest
