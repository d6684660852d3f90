-- The invariant of `gel::lines::Sheet::read`: as many lines as were taken from the chunks stand first (`LinedTo`), and the chunks are cut from
-- what is left. Assumes nothing.
use Rattle.std.proofs.Common.{◌≡◌, ◌+◌, ◌*◌, drop}
use Rattle.gel.proofs.Laws.Formed.{LinedTo}
use Rattle.gel.proofs.lines.Sheet.read.Given as goal

abbrev pub invariant-loop-i : goal.invariant-loop-i
invariant-loop-i l = record {
  size : l.i-iterator.iter.size ≡ l.width + 1;
  rest : l.i-iterator.iter.rest.now ≡ drop (l.i-iterator.count * (l.width + 1)) l.bytes;
  lined : LinedTo l.bytes l.width l.i-iterator.count;
}
