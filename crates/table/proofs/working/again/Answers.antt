-- `table::working::again` meets its contract: a row that contains the cluster is stored as it is worked out, and the others stay. Assumes
-- nothing.
use Rattle.std.proofs.Common.{arith, rules, sym, ap, get_or}
use Rattle.std.specs.Int.{w64}
use mir.Facts.{to_z-of_z}
use mir.Val.{SFits}
use Rattle.laws.proofs.Width.{narrow_facts}
use lib.IntN.{pos}
use Rattle.laws.specs.Limits.{narrow}
use Rattle.table.specs.declared.tally.Tally.{Tally}
use Rattle.table.specs.Columns.{columns_of}
use Rattle.table.proofs.Rows.WorkedMark.{worked-mark-le}
use Rattle.table.proofs.Rows.AgainRow.{ready_row}
use Rattle.table.proofs.Rows.AgainLoop.{partly_skip, partly_store, partly_end}
use Rattle.table.proofs.working.again.Goals as goal
use Rattle.table.proofs.working.again.Goals.{then-is_inside, else-is_inside}

pub worked-row-requires : goal.worked-row-requires
worked-row-requires c = ready_row narrow_facts c.requires c.loop-i.invariant _ (omega arith) c.starts_of-starts.ensures

pub overflow_cast-t : goal.overflow_cast-t
overflow_cast-t c =
    let row = worked-mark-le narrow (columns_of c.loop-i.t) (get_or c.loop-i.t.weights c.loop-i.i (pos 0)) c.loop-i.i c.loop-i.t.degree in
    omega (arith, row, ap (λ (r : Tally). r.mark) c.worked-row.ensures)

pub loop-i-preserved : goal.loop-i-preserved
loop-i-preserved c =
    elim c.if-is_inside.branch [
      | then-is_inside w ↦
          let best : SFits w64 w.worked-row.result.best = search rules in
          rw (w.t-is, to_z-of_z best)
          (partly_store narrow_facts c.requires c.loop-i.invariant c.starts_of-starts.ensures (omega arith) (sym w.if-is_inside.ensures)
          w.worked-row.ensures)
      | else-is_inside w ↦ rw w.t-is (partly_skip narrow_facts c.requires c.loop-i.invariant (omega arith) (sym w.if-is_inside.ensures))
    ]

pub returns : goal.returns
returns c = partly_end narrow_facts c.requires c.loop-i.invariant c.loop-i-test.false
