-- `drawing::writing::add_part` meets its contract: a taxon is its number, and of a larger part each turn of the loop writes one child.
-- Assumes nothing.
use Rattle.std.proofs.Common.{sym, ap, ◌∙◌, arith}
use Rattle.texts.specs.Text.{with_bytes}
use Rattle.drawing.proofs.Written.{taxon-written, writing_begins, writing_goes_on, writing_ends, turn}
use Rattle.drawing.proofs.writing.+add_part.Goals as goal

pub returns-then-is_single : goal.returns-then-is_single
returns-then-is_single t c =
    c.add_decimal.ensures
    ∙ ap (with_bytes c.args.text) (taxon-written c.args.xs.now c.args.part (sym c.if-is_single.ensures) (c.from.ensures ∙ c.lowest.ensures))

pub loop-left-init : goal.loop-left-init
loop-left-init t c = writing_begins _ c.requires.nests c.requires.mem (sym c.if-is_single.ensures)

pub add_part-longer-requires : goal.add_part-longer-requires
add_part-longer-requires t c =
    let next = turn c.loop-left.invariant c.loop-left-test.true c.lowest-in-loop-left.ensures c.child_with-child.ensures in
    (omega (arith, c.decreases, next.lt), (c.loop-left.invariant.nests, next.member))

pub overflow_sub-left : goal.overflow_sub-left
overflow_sub-left t c =
    (turn c.loop-left.invariant c.loop-left-test.true c.lowest-in-loop-left.ensures c.child_with-child.ensures).le

pub loop-left-smaller : goal.loop-left-smaller
loop-left-smaller t c =
    (turn c.loop-left.invariant c.loop-left-test.true c.lowest-in-loop-left.ensures c.child_with-child.ensures).falls

pub loop-left-preserved : goal.loop-left-preserved
loop-left-preserved t c =
    writing_goes_on c.loop-left.invariant c.loop-left-test.true c.lowest-in-loop-left.ensures c.child_with-child.ensures
    c.add_comma-longer.ensures c.add_part-longer.ensures

pub returns : goal.returns
returns t c = writing_ends c.loop-left.invariant c.loop-left-test.false c.args.text c.add-longer.ensures c.add.ensures
