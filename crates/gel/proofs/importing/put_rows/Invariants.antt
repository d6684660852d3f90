-- The invariant of `gel::importing::put_rows`: the records of the first i keys stand at the start of the room (`PutTo`). Assumes nothing.
use Rattle.gel.proofs.Laws.Writing.{PutTo}
use Rattle.gel.proofs.importing.put_rows.Given as goal

abbrev pub invariant-loop-i : goal.invariant-loop-i
invariant-loop-i l = PutTo l.keys l.initial.room l.room l.i
