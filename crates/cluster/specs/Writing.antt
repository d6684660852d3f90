-- Writing one record (RULES 8). Laws: `proofs/Laws/Writing.antt`.
--     write_reasons r      why a record is not written, the room left aside: 5
--     write_record r l     what writing r into the room l gives: 5 first, then 11 under 12 bytes of room; else its bytes stand first
-- Assumes nothing.
use Rattle.std.specs.Prelude.{false, not, List, [], ◌∷◌, ℕ}
use Rattle.laws.specs.Limits.{narrow}
use Rattle.cluster.specs.declared.record.Record.{Record}
use Rattle.answers.specs.declared.refusal.Refusal.TheVariants.{BadRecord}
use Rattle.answers.specs.Outcome.{Outcome, written}
use Rattle.answers.specs.Reasons.{Reason, when}
use Rattle.cluster.specs.Record.{row_in, bytes_of}
use Rattle.cluster.specs.Rule.{broken_rule, is_kept}

abbrev pub write_reasons : Record → List Reason
write_reasons r = when (not (is_kept (broken_rule r.cluster r.weight r.state false))) (BadRecord 0) ∷ []

unfoldable pub write_record : Record → List ℕ → Outcome (List ℕ)
write_record r l = written (write_reasons r) (bytes_of narrow (row_in r)) l
