-- The invariant of `gel::columns::Sheet::column`: all but the marks of the lines that are left are read (`ReadUp`). Assumes nothing.
use Rattle.std.proofs.Common.{◌≡◌, ◌+◌}
use Rattle.gel.proofs.Laws.Columns.{ReadUp}
use Rattle.gel.proofs.lines.Sheet.column.Given as goal

abbrev pub invariant-loop-line : goal.invariant-loop-line
invariant-loop-line l = record {
  size : l.line-iterator.size ≡ l.self.width + 1;
  read : ReadUp l.self.bytes.now l.j l.self.lines l.self.width l.cluster l.line-iterator.rest.now;
}
