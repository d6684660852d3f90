-- `cluster::reading::read_record` meets its contract: each return is one case of reading. Assumes nothing.
use Rattle.std.proofs.Common.{◌≡◌, Bool, sym, ap, ap₂, ◌∙◌}
use Rattle.laws.specs.Limits.{narrow}
use Rattle.cluster.specs.declared.record.Record.{Record}
use Rattle.std.specs.Prelude.{Ok}
use Rattle.answers.specs.Outcome.{outcome_of}
use Rattle.cluster.specs.Rule.{broken_rule, is_kept}
use Rattle.cluster.specs.Reading.{rule_of}
use Rattle.cluster.proofs.Laws.Reading.{read_record-length, read_record-broken, read_record-kept}
use Rattle.cluster.proofs.reading.read_record.Goals as goal
use Rattle.cluster.proofs.reading.read_record.Goals.{After-is_kept}

-- what the record rules said of the bytes
ruling : (c : goal.After-is_kept) → is_kept (rule_of narrow c.args.bytes.now) ≡ c.is_kept.result
ruling c =
    let same = ap₂ (λ (r : Record) (b : Bool). broken_rule r.cluster r.weight r.state b) c.record_of-record.ensures c.has_spare.ensures in
    sym (c.is_kept.ensures ∙ ap is_kept (c.rule_of-rule.ensures ∙ same))

pub returns-then-bytes-ne-RECORD_BYTES : goal.returns-then-bytes-ne-RECORD_BYTES
returns-then-bytes-ne-RECORD_BYTES c =
    c.not_read.ensures ∙ sym (read_record-length c.args.bytes.now c.if-bytes-ne-RECORD_BYTES.true)

pub returns-then-is_kept : goal.returns-then-is_kept
returns-then-is_kept c =
    let kept = ruling ((goal.at.returns-then-is_kept c).After-is_kept) in
    ap (outcome_of (Ok 0)) c.record_of-record.ensures
    ∙ sym (read_record-kept c.args.bytes.now c.if-bytes-ne-RECORD_BYTES.false (kept ∙ c.if-is_kept.true))

pub returns : goal.returns
returns c =
    let kept = ruling ((goal.at.returns c).After-is_kept) in
    c.not_read-2.ensures ∙ sym (read_record-broken c.args.bytes.now c.if-bytes-ne-RECORD_BYTES.false (kept ∙ c.if-is_kept.false))
