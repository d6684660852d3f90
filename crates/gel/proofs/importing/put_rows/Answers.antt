-- `gel::importing::put_rows` meets its contract: each turn writes one record more. Assumes nothing.
use Rattle.gel.proofs.Laws.Writing.{put-more}
use Rattle.gel.proofs.importing.put_rows.Goals as goal

pub loop-i-preserved : goal.loop-i-preserved
loop-i-preserved c =
    put-more _ _ c.requires.1 _ _ c.loop-i-test.true c.loop-i.invariant c.requires.0 _ c.record_of.ensures c.write_record.result _
    c.write_record.ensures
