-- `drawing::drawing::text` meets its contract: why nothing is drawn, or the text put into the room. Assumes nothing.
use Rattle.std.proofs.lemmas.Result.{err_from_is_err_and}
use Rattle.std.proofs.Common.{refl, List, [], ℕ, ap, ◌∙◌}
use Rattle.laws.specs.Limits.{narrow}
use Rattle.laws.proofs.Width.{narrow_facts}
use Rattle.answers.specs.Outcome.{written}
use Rattle.texts.proofs.Laws.{text-front}
use Rattle.drawing.specs.Draw.{leaf_text}
use Rattle.drawing.proofs.Laws.Draw.{text-refused, text-put, text→refused, text→drawn}
use Rattle.drawing.proofs.drawing.text.Goals as goal

pub returns-in_err-drawn : goal.returns-in_err-drawn
returns-in_err-drawn c =
    let p = err_from_is_err_and c.from_residual.result c.from_residual.ensures.1 in
    rw (p.1, p.2) (text-refused narrow _ _ (text→refused narrow _ c.in_err-drawn.ensures refl))

pub returns : goal.returns
returns c =
    let drawn = text→drawn narrow c.args.t c.in_ok-drawn.ensures narrow_facts refl in
    c.put.ensures
    ∙ ap (λ (out : List ℕ). written [] out c.args.room.now) (text-front (leaf_text c.args.t) drawn.text)
    ∙ text-put narrow c.args.t c.args.room.now drawn.unrefused
