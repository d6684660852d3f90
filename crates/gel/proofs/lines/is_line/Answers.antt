-- `gel::lines::is_line` meets its contract: the parts of the test, one by one. The answer names what ends a line, so that another end is
-- refused by that. Assumes nothing.
use Rattle.std.proofs.Common.{◌≡◌, sym, ◌∙◌, ap, true, ℕ, List, length, eqb}
use borrow.Author.Tests.{eq-eqb, eqb-true}
use Rattle.gel.specs.Lines.{line_end}
use Rattle.gel.specs.Form.{is_line}
use Rattle.gel.proofs.Laws.Lines.{line_parts}
use Rattle.gel.proofs.lines.is_line.Goals as goal
use Rattle.gel.proofs.lines.is_line.Goals.{then-marks-width, else-marks-width}

pub returns-then-end-eq-LINE_END : goal.returns-then-end-eq-LINE_END
returns-then-end-eq-LINE_END c =
    let marks = c.in-Some.marks.now in
    let width = c.args.width in
    elim c.if-marks-width.branch [
      | then-marks-width w ↦
          let ended : eqb c.in-Some.end.now line_end ≡ true = sym w.value-is ∙ c.if-end-eq-LINE_END.true in
          c.are_marks.ensures
          ∙ sym
          (ap (λ (x : List ℕ). is_line x width) c.in-Some.ensures.cases.0
          ∙ line_parts marks c.in-Some.end.now width
          ∙ rw (eq-eqb (length marks) width w.if-marks-width.true, ended))
      | else-marks-width w ↦
          absurd (w.if-marks-width.false (eqb-true (length marks) width (sym w.value-is ∙ c.if-end-eq-LINE_END.true)))
    ]
