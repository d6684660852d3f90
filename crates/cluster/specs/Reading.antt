-- Reading one record (RULES 8). Laws: `proofs/Laws/Reading.antt`.
--     reading_of r       the code's reading as an outcome
--     zero_record        the record that is all zero: the record read on a refusal
--     rule_of W l        the rule that the bytes of a record break first
--     KeepsBytes W l    they keep the rules, as facts
--     read_reasons l     why reading one record is refused: 2 unless exactly 12 bytes are given, then 5
--     read_record l      what reading the bytes l gives
-- Assumes nothing.
use Rattle.std.specs.Prelude.{Option, not, List, [], ◌∷◌, ℕ, eqb, pos, length}
use Rattle.laws.specs.Limits.{Width, narrow}
use Rattle.cluster.specs.declared.reading.Reading.{Reading}
use Rattle.cluster.specs.declared.record.Record.{Record}
use Rattle.answers.specs.declared.refusal.Refusal.TheVariants.{WrongLength, BadRecord}
use Rattle.cluster.specs.declared.rule.Rule.{Rule}
use Rattle.answers.specs.Outcome.{Outcome, outcome_of, ended}
use Rattle.answers.specs.Reasons.{Reason, when, first_reason}
use Rattle.cluster.specs.Record.{record_bytes, row_of, record_of, has_spare}
use Rattle.cluster.specs.Rule.{broken_rule, is_kept, Keeps}

abbrev pub reading_of : Reading → Outcome Record
reading_of r = outcome_of r.answer r.«record»

abbrev pub zero_record : Record
zero_record = record { cluster = 0; weight = pos 0; state = 0 }

abbrev pub rule_of : Width → List ℕ → Option Rule
rule_of W l = let r = row_of W l in broken_rule r.cluster r.weight r.state (has_spare W l)

abbrev pub KeepsBytes : Width → List ℕ → Type 0
KeepsBytes W l = let r = row_of W l in Keeps r.cluster r.weight r.state (has_spare W l)

abbrev pub read_reasons : List ℕ → List Reason
read_reasons l = when (not (eqb (length l) record_bytes)) WrongLength ∷ when (not (is_kept (rule_of narrow l))) (BadRecord 0) ∷ []

unfoldable pub read_record : List ℕ → Outcome Record
read_record l = ended (first_reason (read_reasons l)) zero_record 0 (record_of l)
