-- The invariant of `table::searching::starts_of`: the starts of the taxa passed are told, and the last is all rows. Assumes nothing.
use Rattle.table.proofs.Tuples.Searched.{Begun}
use Rattle.table.proofs.searching.starts_of.Given as goal

abbrev pub invariant-loop-taxon : goal.invariant-loop-taxon
invariant-loop-taxon l = Begun l.t.clusters l.t.rows l.taxon l.past l.starts
