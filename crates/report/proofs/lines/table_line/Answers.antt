-- `report::lines::table_line` meets its contract: the text tells whether a tree is drawn, and each answer has its line. Assumes nothing.
use Rattle.std.proofs.Common.{[], ap, ◌∙◌}
use Rattle.laws.specs.Limits.{narrow}
use Rattle.laws.proofs.Width.{narrow_facts}
use Rattle.texts.specs.Text.{holding, with_bytes}
use Rattle.texts.proofs.Laws.{text-front}
use Rattle.drawing.specs.Draw.{leaf_text}
use Rattle.drawing.proofs.Laws.Draw.{text→refused, text→drawn}
use Rattle.report.proofs.Laws.Line.{table-refused, table-drawn}
use Rattle.report.proofs.lines.table_line.Goals as goal

pub returns-in-Err : goal.returns-in-Err
returns-in-Err c =
    let a = c.args in
    c.refused_line.ensures
    ∙ ap (with_bytes (holding [])) (table-refused a.degree a.t (text→refused narrow a.t c.drawn_text.ensures c.in-Err.is))

pub returns-in-Ok : goal.returns-in-Ok
returns-in-Ok c =
    let t = c.args.t in
    let d = text→drawn narrow t c.drawn_text.ensures narrow_facts c.in-Ok.is in
    c.tree_line.ensures
    ∙ ap (with_bytes (holding [])) (table-drawn c.args.degree t d.unrefused d.row (text-front (leaf_text t) d.text))
