-- `report::lines::line_of` meets its contract: what the build sends back says whose line it is. Assumes nothing.
use mathlib.Core.Path.{ap, ◌∙◌}
use mathlib.Core.List.{[]}
use Rattle.texts.specs.Text.{holding, with_bytes}
use Rattle.report.proofs.Laws.Line.{built-refused, built_done}
use Rattle.report.proofs.lines.line_of.Goals as goal

pub returns-in-Err : goal.returns-in-Err
returns-in-Err c =
    let a = c.args in
    c.refused_line.ensures
    ∙ ap (with_bytes (holding [])) (built-refused a.list.now a.degree c.build-built.ensures c.in-Err.is)

pub returns-in-Ok : goal.returns-in-Ok
returns-in-Ok c =
    let a = c.args in
    c.table_line.ensures
    ∙ ap (with_bytes (holding [])) (built_done a.list.now a.degree c.build-built.ensures c.in-Ok.is)
