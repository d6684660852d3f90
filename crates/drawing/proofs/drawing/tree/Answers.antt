-- `drawing::drawing::tree` meets its contract: each return is one way out of drawing. Assumes nothing.
use Rattle.std.proofs.lemmas.Result.{err_from_is_err_and}
use Rattle.std.proofs.Common.{List, [], ◌++◌, ℕ, length, drop, refl, sym, ap, ap₂, ◌∙◌, arith}
use Rattle.laws.specs.Limits.{narrow}
use Rattle.laws.proofs.Width.{narrow_facts}
use Rattle.std.specs.Prelude.{Ok}
use Rattle.answers.specs.Outcome.{outcome_of}
use Rattle.answers.proofs.Laws.Outcome.{written-short, written-whole}
use Rattle.members.specs.Draw.{members_of}
use Rattle.members.proofs.Drawable.{drawn-refused, drawn_done}
use Rattle.drawing.proofs.Laws.Draw.{tree-refused, tree-put}
use Rattle.drawing.proofs.drawing.tree.Goals as goal

pub returns-in_err-drawn : goal.returns-in_err-drawn
returns-in_err-drawn c =
    let p = err_from_is_err_and c.from_residual.result c.from_residual.ensures.1 in
    rw (p.1, p.2) (tree-refused narrow _ _ (drawn-refused narrow _ c.in_err-drawn.ensures refl))

pub returns-then-room-size : goal.returns-then-room-size
returns-then-room-size c =
    let t = c.args.t in
    let d = drawn_done narrow t narrow_facts c.in_ok-drawn.ensures refl in
    sym (written-short [] (members_of t) c.args.room.now refl (omega (arith, d.size, c.if-room-size.true)))
    ∙ tree-put narrow t c.args.room.now d.unrefused

pub put_clusters-requires-clause-narrow : goal.put_clusters-requires-clause-narrow
put_clusters-requires-clause-narrow c =
    let d = drawn_done narrow c.args.t narrow_facts c.in_ok-drawn.ensures refl in
    rw d.front (λ x m. (d.table.sound x m).1)

pub returns : goal.returns
returns c =
    let t = c.args.t in
    let room = c.args.room.now in
    let d = drawn_done narrow t narrow_facts c.in_ok-drawn.ensures refl in
    let xs = members_of t in
    let whole = ap (λ (o : List ℕ). o ++ drop (length o) room) d.front in
    ap₂ outcome_of (ap Ok d.size) (c.put_clusters.ensures ∙ whole)
    ∙ sym (written-whole [] xs room refl (omega (arith, d.size, c.if-room-size.false)))
    ∙ tree-put narrow t room d.unrefused
