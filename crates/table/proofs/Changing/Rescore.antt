-- Rescoring, by the first reason that applies: what is given, and the ways in which the code ends.
--     rescore_of           what is given, by the first reason that applies
--     rescore_unfit, rescore_no_row, rescore_bad_score, rescore_done     8, 9, 10, and a success
-- Assumes nothing.
use mathlib.Core.Path.{◌≡◌, sym, ap, ◌∙◌}
use mathlib.Core.Bool.{true, false, not}
use mathlib.Core.Option.{Option}
use mathlib.Core.List.{List, [], ◌∷◌}
use Prim.Native.Nat.{ℕ}
use lib.IntN.{ℤ}
use Rattle.laws.specs.Limits.{Width}
use Rattle.std.specs.Prelude.{Ok, Err}
use Rattle.answers.specs.declared.refusal.Refusal.{Refusal}
use Rattle.answers.specs.declared.refusal.Refusal.TheVariants.{Unfit, NoRow, BadScore}
use Rattle.answers.specs.Outcome.{outcome_of, ended}
use Rattle.answers.specs.Reasons.{Reason, when, first_reason}
use Rattle.cluster.specs.Rule.{is_score}
use Rattle.answers.proofs.Laws.Reasons.{reason_told, reason_passed}
use Rattle.kept.specs.declared.table.Table.{Table}
use Rattle.kept.specs.Fit.{is_fit}
use Rattle.kept.specs.Rows.{has_row}
use Rattle.table.specs.Rescore.{rescore_reasons, new_table, rescore_table}

module _ (W : Width) (t : Table) (c : ℕ) (z : ℤ) (s : ℕ) where
  pub rescore_of : {f : Option Refusal} → first_reason (rescore_reasons W t c z s) ≡ f
      → rescore_table W t c z s ≡ ended f t 0 (new_table W t c z s)
  unfolding rescore_table
  rescore_of e = ap (λ (f : Option Refusal). ended f t 0 (new_table W t c z s)) e

  abbrev score_reason : List Reason
  score_reason = when (not (is_score z s)) BadScore ∷ []

  abbrev row_reasons : List Reason
  row_reasons = when (not (has_row t c)) NoRow ∷ score_reason

  pub rescore_unfit : is_fit W t ≡ false → outcome_of (Err Unfit) t ≡ rescore_table W t c z s
  rescore_unfit a = sym (rescore_of (reason_told (not (is_fit W t)) Unfit row_reasons (ap not a)))

  module _ (a : is_fit W t ≡ true) where
    past-fit : {f : Option Refusal} → first_reason row_reasons ≡ f → first_reason (rescore_reasons W t c z s) ≡ f
    past-fit e = reason_passed (not (is_fit W t)) Unfit row_reasons (ap not a) ∙ e

    pub rescore_no_row : has_row t c ≡ false → outcome_of (Err NoRow) t ≡ rescore_table W t c z s
    rescore_no_row b = sym (rescore_of (past-fit (reason_told (not (has_row t c)) NoRow score_reason (ap not b))))

    module _ (b : has_row t c ≡ true) where
      past_row : {f : Option Refusal} → first_reason score_reason ≡ f → first_reason (rescore_reasons W t c z s) ≡ f
      past_row e = past-fit (reason_passed (not (has_row t c)) NoRow score_reason (ap not b) ∙ e)

      pub rescore_bad_score : is_score z s ≡ false → outcome_of (Err BadScore) t ≡ rescore_table W t c z s
      rescore_bad_score e = sym (rescore_of (past_row (reason_told (not (is_score z s)) BadScore [] (ap not e))))

      pub rescore_done : is_score z s ≡ true → {u : Table} → u ≡ new_table W t c z s → outcome_of (Ok 0) u ≡ rescore_table W t c z s
      rescore_done e q =
          ap (outcome_of (Ok 0)) q ∙ sym (rescore_of (past_row (reason_passed (not (is_score z s)) BadScore [] (ap not e))))
