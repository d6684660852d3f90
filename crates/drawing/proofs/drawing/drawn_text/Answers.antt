-- `drawing::drawing::drawn_text` meets its contract: each return is one way out of drawing. Assumes nothing.
use Rattle.std.proofs.lemmas.Result.{err_from_is_err_and}
use Rattle.std.proofs.Common.{refl, ◌≡◌, ℕ, get_or, ap, ap₂, ◌∙◌}
use Rattle.laws.specs.Limits.{narrow}
use Rattle.laws.proofs.Width.{narrow_facts}
use Rattle.shapes.specs.Drawn.{text_of}
use Rattle.texts.specs.Text.{holding}
use Rattle.kept.specs.declared.table.Table.{Table}
use Rattle.kept.specs.Rows.{leaf_set}
use Rattle.members.specs.declared.draw.Drawn.{Drawn}
use Rattle.members.specs.Drawable.{Success}
use Rattle.members.proofs.Drawable.{drawn-refused, drawn_done}
use Rattle.drawing.proofs.Laws.Draw.{tree_on, drawn_text-refused, drawn_text_done}
use Rattle.drawing.proofs.drawing.drawn_text.Goals as goal

-- the row that is told is the leaf set's
top : (t : Table) (r : Drawn) → Success narrow t r → get_or t.clusters r.row 0 ≡ leaf_set t
top t r d = ap (λ (i : ℕ). get_or t.clusters i 0) d.row ∙ d.table.top

pub returns-in_err-drawn : goal.returns-in_err-drawn
returns-in_err-drawn c =
    let p = err_from_is_err_and c.from_residual.result c.from_residual.ensures.1 in
    rw (p.1, p.2) (drawn_text-refused narrow _ (drawn-refused narrow _ c.in_err-drawn.ensures refl))

pub text_of-text-requires-clause-tree_on : goal.text_of-text-requires-clause-tree_on
text_of-text-requires-clause-tree_on c =
    let d = drawn_done narrow c.args.t narrow_facts c.in_ok-drawn.ensures refl in
    rw (d.front, top c.args.t _ d) (tree_on narrow narrow_facts d.table)

pub text_of-text-requires-clause-top_bound : goal.text_of-text-requires-clause-top_bound
text_of-text-requires-clause-top_bound c =
    let d = drawn_done narrow c.args.t narrow_facts c.in_ok-drawn.ensures refl in
    rw (top c.args.t _ d) (d.table.sound _ (tree_on narrow narrow_facts d.table).top).1

pub returns : goal.returns
returns c =
    let d = drawn_done narrow c.args.t narrow_facts c.in_ok-drawn.ensures refl in
    let same = c.text_of-text.ensures ∙ ap holding (ap₂ text_of d.front (top c.args.t _ d)) in
    drawn_text_done narrow c.args.t d.unrefused d.row same
