-- `cluster::writing::write_record` meets its contract: each return is one case of writing. Assumes nothing.
use Rattle.std.proofs.Common.{◌≡◌, Bool, false, sym, ap, ◌∙◌, arith}
use Rattle.std.specs.Prelude.{Ok}
use Rattle.cluster.specs.declared.record.Record.{Record}
use Rattle.answers.specs.Outcome.{outcome_of}
use Rattle.cluster.specs.Record.{record_bytes}
use Rattle.cluster.specs.Rule.{broken_rule, is_kept}
use Rattle.cluster.proofs.Laws.Writing.{write_record-broken, write_record-short, write_record-kept}
use Rattle.cluster.proofs.writing.write_record.Goals as goal
use Rattle.cluster.proofs.writing.write_record.Goals.{After-is_kept}

abbrev is_kept_record : Record → Bool
is_kept_record r = is_kept (broken_rule r.cluster r.weight r.state false)

-- what the record rules said of the record
ruling : (c : goal.After-is_kept) → is_kept_record c.args.r ≡ c.is_kept.result
ruling c = sym (c.is_kept.ensures ∙ ap is_kept c.rule_of-rule.ensures)

pub returns-then-not-is_kept : goal.returns-then-not-is_kept
returns-then-not-is_kept c =
    let told = ruling ((goal.at.returns-then-not-is_kept c).After-is_kept) in
    sym (write_record-broken c.args.r c.args.room.now (told ∙ c.if-not-is_kept.true))

pub returns-then-room-lt-RECORD_BYTES : goal.returns-then-room-lt-RECORD_BYTES
returns-then-room-lt-RECORD_BYTES c =
    let told = ruling ((goal.at.returns-then-room-lt-RECORD_BYTES c).After-is_kept) in
    sym (write_record-short c.args.r c.args.room.now (told ∙ c.if-not-is_kept.false) (omega arith))

pub returns : goal.returns
returns c =
    let told = ruling ((goal.at.returns c).After-is_kept) in
    ap (outcome_of (Ok record_bytes)) c.put_record.ensures
    ∙ sym (write_record-kept c.args.r c.args.room.now (told ∙ c.if-not-is_kept.false) (omega arith))
