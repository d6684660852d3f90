-- `report::lines::line` meets its contract: the line, put into the room. Assumes nothing.
use Rattle.std.proofs.Common.{List, [], ℕ, ap, ◌∙◌}
use Rattle.answers.specs.Outcome.{written}
use Rattle.texts.proofs.Laws.{text-front}
use Rattle.report.specs.Line.{line_of}
use Rattle.report.proofs.Laws.Line.{line_held, line-put}
use Rattle.report.proofs.lines.line.Goals as goal

pub returns : goal.returns
returns c =
    let a = c.args in
    let held = line_held a.list.now a.degree c.ranges.degree.fits c.line_of-text.ensures in
    c.put.ensures
    ∙ ap (λ (l : List ℕ). written [] l a.room.now) (text-front (line_of a.list.now a.degree) held)
    ∙ line-put a.list.now a.degree a.room.now
