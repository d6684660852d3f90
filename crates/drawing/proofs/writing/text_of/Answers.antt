-- `drawing::writing::text_of` meets its contract: the bytes of the whole, and the semicolon after them. Assumes nothing.
use mathlib.Core.Path.{ap, ◌∙◌}
use Rattle.shapes.specs.Parts.{part_bytes}
use Rattle.texts.specs.declared.text.Text.{Text}
use Rattle.texts.specs.Text.{with_bytes}
use Rattle.drawing.proofs.Written.{text-written}
use Rattle.drawing.proofs.writing.text_of.Goals as goal

pub returns : goal.returns
returns c =
    let xs = c.args.xs.now in
    let first = c.add_part.ensures ∙ ap (λ (t : Text). with_bytes t (part_bytes xs c.args.top)) c.empty.ensures in
    text-written xs c.args.top c.requires.tree_on c.requires.top_bound first c.add.ensures
