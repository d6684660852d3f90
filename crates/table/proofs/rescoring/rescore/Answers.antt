-- `table::rescoring::rescore` meets its contract: each refusal in its order, and else the table with the new score, worked out. Assumes
-- nothing.
use Rattle.std.proofs.Common.{◌≡◌, true, ℕ, ◌≤◌, get_or, sym, ◌∙◌, rules, arith}
use Rattle.std.specs.Int.{w64}
use mir.Facts.{to_z-of_z}
use mir.Val.{Fits}
use Rattle.laws.specs.Limits.{narrow, row_cap}
use Rattle.laws.proofs.Tests.{true_T}
use Rattle.laws.proofs.Width.{narrow_facts}
use Rattle.kept.specs.declared.table.Table.{Table}
use Rattle.kept.specs.Fit.{is_fit}
use Rattle.kept.specs.Arrays.{Sized}
use Rattle.kept.proofs.Laws.Fit.{is_fit→}
use Rattle.table.proofs.Changing.Rescore.{rescore_unfit, rescore_no_row, rescore_bad_score, rescore_done}
use Rattle.table.proofs.Changing.Scored.{row_missing, row_listed, row_found, score_workable, score_done}
use Rattle.table.proofs.rescoring.rescore.Goals as goal

-- a fit table has no more rows than there is room for
capped : (t : Table) → is_fit narrow t ≡ true → t.rows ≤ row_cap
capped t f = (is_fit→ narrow narrow_facts t (true_T f)).bounds.capped

pub returns-then-not-is_fit : goal.returns-then-not-is_fit
returns-then-not-is_fit c =
    let a = c.args in
    c.refused.ensures ∙ rescore_unfit narrow a.given a.cluster a.weight a.state (sym c.if-not-is_fit.ensures)

pub returns-then-given-at : goal.returns-then-given-at
returns-then-given-at c =
    let a = c.args in
    let fit = sym c.if-not-is_fit.ensures in
    c.refused-then-given-at.ensures
    ∙ rescore_no_row narrow a.given a.cluster a.weight a.state fit
    (row_missing a.given (capped a.given fit) a.cluster _ c.place_of-at.ensures (omega arith))

pub returns-then-not-is_score : goal.returns-then-not-is_score
returns-then-not-is_score c =
    let a = c.args in
    let fit = sym c.if-not-is_fit.ensures in
    c.refused-then-not-is_score.ensures
    ∙ rescore_bad_score narrow a.given a.cluster a.weight a.state fit
    (row_listed a.given (capped a.given fit) a.cluster _ c.place_of-at.ensures c.if-given-at.false)
    (rw (to_z-of_z c.ranges.weight) at (sym c.if-not-is_score.ensures))

-- ---- the row of the cluster is one of the 128

pub offset_bounds-table-at : goal.offset_bounds-table-at
offset_bounds-table-at c = omega (arith, c.if-given-at.false, capped c.args.given (sym c.if-not-is_fit.ensures))

pub bounds-table-at : goal.bounds-table-at
bounds-table-at c = omega (arith, c.if-given-at.false, capped c.args.given (sym c.if-not-is_fit.ensures))

pub bounds-table-at-2 : goal.bounds-table-at-2
bounds-table-at-2 c = omega (arith, c.if-given-at.false, capped c.args.given (sym c.if-not-is_fit.ensures))

-- ---- the table with the new score

pub again-requires : goal.again-requires
again-requires c =
    let a = c.args in
    let fit = sym c.if-not-is_fit.ensures in
    let sized : Sized a.given = search rules in
    let low : (j : ℕ) → Fits w64 (get_or a.given.members_low j 0) = λ j. search rules in
    let found = row_found a.given (capped a.given fit) a.cluster _ c.place_of-at.ensures c.if-given-at.false in
    score_workable narrow narrow_facts a.given a.cluster a.weight a.state sized (true_T fit) c.place_of-at.result c.if-given-at.false found
    (true_T (rw (to_z-of_z c.ranges.weight) at (sym c.if-not-is_score.ensures))) (λ j h. (low j).fits) (to_z-of_z c.ranges.weight)

pub returns : goal.returns
returns c =
    let a = c.args in
    let fit = sym c.if-not-is_fit.ensures in
    let sized : Sized a.given = search rules in
    let listed = row_listed a.given (capped a.given fit) a.cluster _ c.place_of-at.ensures c.if-given-at.false in
    let found = row_found a.given (capped a.given fit) a.cluster _ c.place_of-at.ensures c.if-given-at.false in
    rescore_done narrow a.given a.cluster a.weight a.state fit listed (rw (to_z-of_z c.ranges.weight) at (sym c.if-not-is_score.ensures))
    (c.again.ensures
    ∙ score_done narrow narrow_facts a.given a.cluster a.weight a.state sized (true_T fit) c.place_of-at.result c.if-given-at.false found
    (to_z-of_z c.ranges.weight))
