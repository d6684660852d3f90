-- What it is that an example is right, by the operations' own specifications.
--     list_of c                the bytes of a case's list
--     rescored_by x t          what a rescoring gives, where there is one; else the table stays
--     built_of c, end_of c      what building the list gives, and what the rescoring of that table gives
--     Changes t u cs          of the rows of t, exactly those of the clusters cs differ in u
--     Right c                 the list is built and the rescoring taken, the rows change as told, and what is drawn is as told
-- Assumes nothing.
use Rattle.std.specs.Prelude.{◌≡◌, ◌↔◌, not, List, ℕ, ◌<◌, T}
use Rattle.std.proofs.Math.Option.{Option, none, some}
use Rattle.laws.specs.Limits.{narrow}
use Rattle.laws.specs.Lists.{elem, bind}
use Rattle.laws.specs.Row.{Row}
use Rattle.std.specs.Prelude.{Ok}
use Rattle.answers.specs.Outcome.{Outcome, outcome_of}
use Rattle.cluster.specs.Record.{bytes_of}
use Rattle.answers.specs.Refusal.{sent_of}
use Rattle.kept.specs.declared.table.Table.{Table}
use Rattle.kept.specs.View.{row_at, entry_at}
use Rattle.table.specs.Build.{build_table}
use Rattle.table.specs.Rescore.{rescore_table}
use Rattle.examples.specs.Case.{Case}
use Rattle.examples.specs.Told.{Told}

abbrev pub list_of : Case → List ℕ
list_of c = bind (bytes_of narrow) c.records

-- ---- the tables of a case
abbrev pub rescored_by : Option Row → Table → Outcome Table
rescored_by none t = outcome_of (Ok 0) t
rescored_by (some r) t = rescore_table narrow t r.cluster r.weight r.state

abbrev pub built_of : Case → Outcome Table
built_of c = build_table narrow (list_of c) c.degree

abbrev pub end_of : Case → Outcome Table
end_of c = rescored_by c.rescoring (built_of c).given

abbrev pub Changes : Table → Table → List ℕ → Type 0
Changes t u cs = (i : ℕ) → i < t.rows → (entry_at t i ≡ entry_at u i) ↔ T (not (elem (row_at t i).cluster cs))

pub record Right (c : Case) : Type 0 where
  pub built : (built_of c).sent ≡ sent_of (Ok 0)
  pub rescored : (end_of c).sent ≡ sent_of (Ok 0)
  pub changed : Changes (built_of c).given (end_of c).given c.changed
  pub told : Told (end_of c).given c.ending
