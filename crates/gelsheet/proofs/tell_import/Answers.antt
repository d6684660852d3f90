-- The line's bytes are within those of its text. Assumes nothing.
use Rattle.std.proofs.Common.{◌≡◌, ◌∙◌, ℕ, List, [], take, arith}
use Rattle.texts.specs.declared.text.Text.{Text}
use Rattle.texts.specs.Text.{text_cap, holding, with_bytes}
use Rattle.texts.proofs.Laws.{with_held, text-fits, text-count}
use Rattle.gelsheet.proofs.tell_import.Goals as goal

line-held : (line : List ℕ) {t : Text} → t ≡ with_bytes (holding []) line → t ≡ holding (take text_cap line)
line-held line e = e ∙ with_held [] line (omega arith)

pub slice_bounds-bytes-end : goal.slice_bounds-bytes-end
slice_bounds-bytes-end g c = text-fits _ (line-held _ c.sheet_line-size.ensures)

pub slice_bounds-tell-end : goal.slice_bounds-tell-end
slice_bounds-tell-end g c = text-count _ (line-held _ c.sheet_line-size.ensures)
