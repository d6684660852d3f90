-- `kept::marks::is_marked` meets its contract: the first 64 rows have their marks in the low word, and those past 128 have none.
-- Assumes nothing.
use Rattle.std.proofs.Common.{sym}
use mir.Facts.{Fits-lt-pow}
use Rattle.kept.proofs.Laws.Marks.{mark-low, mark-past, mark_over}
use Rattle.kept.proofs.marks.is_marked.Goals as goal

pub returns-then-i-lt-WORD_ROWS : goal.returns-then-i-lt-WORD_ROWS
returns-then-i-lt-WORD_ROWS c = let a = c.args in sym (mark-low a.low a.high a.i c.if-i-lt-WORD_ROWS.true)

pub returns-then-i-lt-ROW_CAP : goal.returns-then-i-lt-ROW_CAP
returns-then-i-lt-ROW_CAP c =
    let a = c.args in sym (mark-past a.low a.high a.i (Fits-lt-pow c.ranges.low) c.if-i-lt-WORD_ROWS.false)

pub returns-else-i-lt-ROW_CAP : goal.returns-else-i-lt-ROW_CAP
returns-else-i-lt-ROW_CAP c =
    let a = c.args in
    sym (mark_over a.low a.high a.i (Fits-lt-pow c.ranges.low) (Fits-lt-pow c.ranges.high) c.if-i-lt-ROW_CAP.false)
