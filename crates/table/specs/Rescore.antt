-- Rescoring one row of a kept table (RULES 7 and 8): stated by the rules' formulas, for every fit table, whether or not a build made it.
-- Laws: `proofs/Changing/Rescore.antt`.
--     rescore_reasons W t c z s     why it is refused: 8 (fitness only), 9, 10 in that order
--     new_table W t c z s           the table with the new score, each row that contains it worked out again
--     rescore_table W t c z s       what rescoring gives; refused, the table is as it was given, whatever it holds
-- Assumes nothing.
use Rattle.std.specs.Prelude.{not, List, [], ◌∷◌, ℕ, ℤ}
use Rattle.laws.specs.Limits.{Width}
use Rattle.answers.specs.declared.refusal.Refusal.TheVariants.{Unfit, NoRow, BadScore}
use Rattle.answers.specs.Outcome.{Outcome, ended}
use Rattle.answers.specs.Reasons.{Reason, when, first_reason}
use Rattle.cluster.specs.Rule.{is_score}
use Rattle.trees.specs.Rescored.{rescored}
use Rattle.kept.specs.declared.table.Table.{Table}
use Rattle.kept.specs.View.{entries_of, clusters_in, table_of}
use Rattle.kept.specs.Fit.{is_fit}
use Rattle.kept.specs.Rows.{has_row}

module _ (W : Width) (t : Table) (c : ℕ) (z : ℤ) (s : ℕ) where
  abbrev pub rescore_reasons : List Reason
  rescore_reasons = when (not (is_fit W t)) Unfit ∷ when (not (has_row t c)) NoRow ∷ when (not (is_score z s)) BadScore ∷ []

  abbrev pub new_table : Table
  new_table = table_of t.degree (rescored W t.degree (clusters_in t) c z s (entries_of t t.rows))

  unfoldable pub rescore_table : Outcome Table
  rescore_table = ended (first_reason rescore_reasons) t 0 new_table
