-- Tables that no build made (RULES 7 and 12): an accepted rescoring of any fit table.
--     reworks     the demand of `specs/Demands.antt`
-- Assumes nothing.
use mathlib.Core.Path.{◌≡◌, refl, sym, ap, ◌∙◌, subst}
use Prim.Native.Nat.{ℕ, ◌<◌}
use lib.Dec.{T}
use lib.IntN.{ℤ}
use Rattle.laws.specs.Cluster.{inside}
use Rattle.laws.specs.Limits.{Width, narrow}
use Rattle.laws.specs.Row.{Row}
use Rattle.laws.specs.Widths.{WidthFacts}
use Rattle.laws.proofs.Tests.{T_true}
use Rattle.laws.proofs.Width.{narrow_facts}
use Rattle.answers.specs.Outcome.{Outcome}
use Rattle.cluster.specs.Rule.{is_score}
use Rattle.trees.specs.Rescored.{put_score}
use Rattle.trees.proofs.Rescore.{put-cluster}
use Rattle.kept.specs.declared.table.Table.{Table}
use Rattle.kept.specs.View.{row_at}
use Rattle.kept.specs.Fit.{is_fit}
use Rattle.kept.specs.Facts.{FitTable}
use Rattle.kept.specs.Rows.{has_row}
use Rattle.kept.proofs.Laws.Fit.{is_fit→}
use Rattle.table.specs.Rescore.{new_table, rescore_table}
use Rattle.table.proofs.Changing.Rescore.{rescore_done}
use Rattle.table.proofs.Changing.RescoredTables.{rescore_accepts_iff, new_count}
use Rattle.table.proofs.Fitting.FitTables.{fit-rows, rescored-fit}
use Rattle.demands.specs.Demands.{Reworks}
use Rattle.demands.specs.Worked.{WorkedRow}
use Rattle.demands.proofs.Worked.Standing.{new_row, new_stands}
use Rattle.demands.proofs.Worked.Row.{worked-row}

module _ (W : Width) (t : Table) (c : ℕ) (z : ℤ) (s : ℕ) (taken : (rescore_table W t c z s).sent.number ≡ 0) where
  accepted : T (is_fit W t) × T (has_row t c) × T (is_score z s)
  accepted = (rescore_accepts_iff W t c z s).0 taken

  -- what is handed back is the table with the new score, worked out again
  rework_given : new_table W t c z s ≡ (rescore_table W t c z s).given
  rework_given =
      ap (λ (o : Outcome Table). o.given) (rescore_done W t c z s (T_true (is_fit W t) accepted.0) (T_true (has_row t c) accepted.1)
      (T_true (is_score z s) accepted.2) refl)

  rework_scored : (i : ℕ) → i < t.rows → row_at (rescore_table W t c z s).given i ≡ put_score c z s (row_at t i)
  rework_scored i l = subst (λ (u : Table). row_at u i ≡ put_score c z s (row_at t i)) rework_given (new_row W t c z s i l)

  module _ (facts : WidthFacts W) where
    new_fit : T (is_fit W (new_table W t c z s))
    new_fit = rescored-fit W facts t c z s accepted.0 accepted.2

    rework_fit : FitTable W (rescore_table W t c z s).given
    rework_fit = is_fit→ W facts (rescore_table W t c z s).given (subst (λ (u : Table). T (is_fit W u)) rework_given new_fit)

    rework_row : (i : ℕ) → i < t.rows → T (inside c (row_at t i).cluster) → WorkedRow W (rescore_table W t c z s).given i
    rework_row i l h =
        subst (λ (u : Table). WorkedRow W u i) rework_given (worked-row W new (fit-rows W facts new new_fit) i place
        (new_stands W t c z s facts accepted.0 i place (subst (λ (x : ℕ). T (inside c x)) same h)))
      where
        new : Table
        new = new_table W t c z s

        place : i < new.rows
        place = subst (λ (n : ℕ). i < n) (sym (new_count W t c z s)) l

        same : (row_at t i).cluster ≡ (row_at new i).cluster
        same = sym (ap (λ (r : Row). r.cluster) (new_row W t c z s i l) ∙ put-cluster c z s (row_at t i))

pub reworks : Reworks
reworks = record {
  new_score = rework_scored narrow;
  worked = λ t c z s e. rework_row narrow t c z s e narrow_facts;
  fit = λ t c z s e. rework_fit narrow t c z s e narrow_facts;
}
