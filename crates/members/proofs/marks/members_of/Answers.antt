-- `members::marks::members_of` meets its contract: a row that is marked is taken if it is scored, and ends all if not; one that isn't marked
-- is passed. Assumes nothing.
use Rattle.std.proofs.Common.{sym, arith}
use Rattle.members.proofs.Laws.Gathered.{gathered_skips, gathered_takes}
use Rattle.members.proofs.Laws.Marked.{scored_stops}
use Rattle.members.proofs.marks.members_of.Goals as goal
use Rattle.members.proofs.marks.members_of.Goals.{then-is_marked+else-not-is_scored, else-is_marked}

pub returns-then-not-is_scored : goal.returns-then-not-is_scored
returns-then-not-is_scored c =
    scored_stops c.args.t.now.states _ c.loop-i.i c.args.t.now.rows (omega arith) (sym c.if-is_marked.ensures) (sym c.if-not-is_scored.ensures)

pub loop-i-preserved : goal.loop-i-preserved
loop-i-preserved c =
    let g = c.loop-i.invariant in
    elim c.if-is_marked.branch [
      | then-is_marked+else-not-is_scored w ↦
          rw (w.members-is, w.from.ensures)
          (gathered_takes g (omega arith) (sym w.if-is_marked.ensures) (omega arith) (sym w.if-not-is_scored.ensures) w.push.ensures.items)
      | else-is_marked w ↦ rw w.members-is (gathered_skips g (sym w.if-is_marked.ensures))
    ]
