-- Writing one record: what it gives in each case.
--     write_record_is     it is written into the room by its reasons
--     write_record-broken, write_record-short, write_record-kept     the three cases
-- Assumes nothing.
use mathlib.Core.Path.{◌≡◌, refl, ap, ◌∙◌}
use mathlib.Core.Bool.{true, false, not}
use mathlib.Core.List.{List, [], ◌++◌}
use Prim.Native.Nat.{ℕ, ◌≤◌, ◌<◌}
use lib.ListN.{length, drop}
use Rattle.laws.specs.Limits.{narrow}
use Rattle.cluster.specs.declared.record.Record.{Record}
use Rattle.std.specs.Prelude.{Ok, Err}
use Rattle.answers.specs.declared.refusal.Refusal.TheVariants.{BadRecord, NoRoom}
use Rattle.answers.specs.Outcome.{outcome_of, written}
use Rattle.cluster.specs.Record.{record_bytes, row_in, bytes_of}
use Rattle.cluster.specs.Rule.{broken_rule, is_kept}
use Rattle.cluster.specs.Writing.{write_reasons, write_record}
use Rattle.answers.proofs.Laws.Outcome.{written-refused, written-short, written-whole}
use Rattle.answers.proofs.Laws.Reasons.{reason_told, reason_passed}

module _ (r : Record) (l : List ℕ) where
  pub write_record_is : write_record r l ≡ written (write_reasons r) (bytes_of narrow (row_in r)) l
  unfolding write_record
  write_record_is = refl

  pub write_record-broken : is_kept (broken_rule r.cluster r.weight r.state false) ≡ false
      → write_record r l ≡ outcome_of (Err (BadRecord 0)) l
  write_record-broken e =
      write_record_is
      ∙ written-refused (write_reasons r) (bytes_of narrow (row_in r)) l (BadRecord 0) (reason_told _ (BadRecord 0) [] (ap not e))

  module _ (e : is_kept (broken_rule r.cluster r.weight r.state false) ≡ true) where
    pub write_record-short : length l < record_bytes → write_record r l ≡ outcome_of (Err NoRoom) l
    write_record-short h =
        write_record_is
        ∙ written-short (write_reasons r) (bytes_of narrow (row_in r)) l (reason_passed _ (BadRecord 0) [] (ap not e)) h

    pub write_record-kept : record_bytes ≤ length l
        → write_record r l ≡ outcome_of (Ok record_bytes) (bytes_of narrow (row_in r) ++ drop record_bytes l)
    write_record-kept h =
        write_record_is
        ∙ written-whole (write_reasons r) (bytes_of narrow (row_in r)) l (reason_passed _ (BadRecord 0) [] (ap not e)) h
