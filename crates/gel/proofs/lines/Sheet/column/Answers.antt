-- `gel::columns::Sheet::column` meets its contract: each turn reads one mark more, and the reading ends at a ? or above line 0. Assumes
-- nothing.
use Rattle.std.proofs.Common.{◌∙◌, ◌+◌, ◌*◌, arith}
use Rattle.gel.proofs.Laws.Columns.{ReadUp, read_none, read_all, read_small, read_bit, read_stopped, read_more}
use Rattle.gel.proofs.lines.Sheet.column.Goals as goal
use Rattle.gel.proofs.lines.Sheet.column.Goals.{After-one_in}

pub loop-line-init : goal.loop-line-init
loop-line-init c =
    let chunks = c.rchunks_exact-line-items.ensures in
    rw c.into_iter-line-iterator.ensures.into_iter_gives (record {
      size = chunks.size;
      read = read_none _ _ _ _ c.args.self.now.formed c.requires _ _ chunks.parts chunks.remainder_len;
    })

pub returns-then-mark-eq-UNREAD : goal.returns-then-mark-eq-UNREAD
returns-then-mark-eq-UNREAD c =
    read_stopped _ _ _ _ c.args.self.now.formed c.requires _ _ c.loop-line.invariant.read _ _ c.in-Some.ensures.steps.2.0
    (c.in-Some.ensures.steps.2.1 ∙ c.loop-line.invariant.size) c.if-mark-eq-UNREAD.true

pub overflow_mul-cluster : goal.overflow_mul-cluster
overflow_mul-cluster c = omega (arith, read_small _ _ _ _ c.args.self.now.formed c.requires _ _ c.loop-line.invariant.read)

pub one_in-requires : goal.one_in-requires
one_in-requires c =
    read_bit _ _ _ _ c.args.self.now.formed c.requires _ _ c.loop-line.invariant.read _ _ c.in-Some.ensures.steps.2.0
    (c.in-Some.ensures.steps.2.1 ∙ c.loop-line.invariant.size) c.if-mark-eq-UNREAD.false

-- one line more
again : (c : After-one_in)
    → let x = c.args.self.now in
    ReadUp x.bytes.now c.args.j x.lines x.width (2 * c.loop-line.cluster + c.one_in.result) c.next.new.self.rest.now
again c =
    read_more _ _ _ _ c.args.self.now.formed c.requires _ _ c.loop-line.invariant.read _ _ c.in-Some.ensures.steps.2.0
    (c.in-Some.ensures.steps.2.1 ∙ c.loop-line.invariant.size) c.if-mark-eq-UNREAD.false _ c.one_in.ensures

-- the cluster of one line more is still small
pub overflow_add-cluster : goal.overflow_add-cluster
overflow_add-cluster c =
    omega (arith, read_small _ _ _ _ c.args.self.now.formed c.requires _ _ (again ((goal.at.overflow_add-cluster c).After-one_in)))

pub loop-line-preserved : goal.loop-line-preserved
loop-line-preserved c = record { size = c.in-Some.ensures.steps.0 ∙ c.loop-line.invariant.size; read = again c }

pub returns : goal.returns
returns c =
    read_all _ _ _ _ c.args.self.now.formed c.requires _ _ c.loop-line.invariant.read
    (omega (arith, c.in-None.ensures.steps.2.0, c.loop-line.invariant.size))
