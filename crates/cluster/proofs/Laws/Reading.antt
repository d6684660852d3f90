-- Reading one record: what it gives in each case.
--     read_record_is     it ends by its reasons
--     read_record-length, read_record-broken, read_record-kept     the three cases
-- Assumes nothing.
use mathlib.Core.Path.{◌≡◌, refl, ap, ◌∙◌}
use mathlib.Core.Logic.{◌≢◌}
use mathlib.Core.Bool.{true, false, not}
use mathlib.Core.Option.{Option}
use mathlib.Core.List.{List, [], ◌∷◌}
use Prim.Native.Nat.{ℕ}
use borrow.Author.Tests.{eq-eqb, ne_eqb}
use lib.ListN.{length}
use Rattle.laws.specs.Limits.{narrow}
use Rattle.std.specs.Prelude.{Ok, Err}
use Rattle.answers.specs.declared.refusal.Refusal.{Refusal}
use Rattle.answers.specs.declared.refusal.Refusal.TheVariants.{WrongLength, BadRecord}
use Rattle.answers.specs.Outcome.{outcome_of, ended}
use Rattle.answers.specs.Reasons.{Reason, when, first_reason}
use Rattle.cluster.specs.Record.{record_bytes, record_of}
use Rattle.cluster.specs.Rule.{is_kept}
use Rattle.cluster.specs.Reading.{rule_of, zero_record, read_reasons, read_record}
use Rattle.answers.proofs.Laws.Reasons.{reason_told, reason_passed}

module _ (l : List ℕ) where
  pub read_record_is : read_record l ≡ ended (first_reason (read_reasons l)) zero_record 0 (record_of l)
  unfolding read_record
  read_record_is = refl

  by : {f : Option Refusal} → first_reason (read_reasons l) ≡ f → read_record l ≡ ended f zero_record 0 (record_of l)
  by e = read_record_is ∙ ap (λ (f : Option Refusal). ended f zero_record 0 (record_of l)) e

  abbrev broken : List Reason
  broken = when (not (is_kept (rule_of narrow l))) (BadRecord 0) ∷ []

  pub read_record-length : length l ≢ record_bytes → read_record l ≡ outcome_of (Err WrongLength) zero_record
  read_record-length n = by (reason_told _ WrongLength broken (ap not (ne_eqb _ _ n)))

  fits : length l ≡ record_bytes → first_reason (read_reasons l) ≡ first_reason broken
  fits h = reason_passed _ WrongLength broken (ap not (eq-eqb _ _ h))

  pub read_record-broken : length l ≡ record_bytes → is_kept (rule_of narrow l) ≡ false
      → read_record l ≡ outcome_of (Err (BadRecord 0)) zero_record
  read_record-broken h e = by (fits h ∙ reason_told _ (BadRecord 0) [] (ap not e))

  pub read_record-kept : length l ≡ record_bytes → is_kept (rule_of narrow l) ≡ true → read_record l ≡ outcome_of (Ok 0) (record_of l)
  read_record-kept h e = by (fits h ∙ reason_passed _ (BadRecord 0) [] (ap not e))
