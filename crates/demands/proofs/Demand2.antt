-- DEMAND 2 IS MET: the trees of a list are counted, and the first heaviest is drawn, after any changes.
--     after_changes     what is so of the built table of every accepted list is so of one that was built and then rescored
--     demand2           the demand
-- Assumes nothing.
use mathlib.Core.Path.{refl, sym, ◌∙◌, subst}
use mathlib.Core.List.{List}
use Prim.Native.Nat.{ℕ}
use lib.Dec.{T}
use Rattle.laws.specs.Limits.{Width, narrow, is_degree}
use Rattle.laws.specs.Row.{Row}
use Rattle.laws.specs.Widths.{WidthFacts}
use Rattle.laws.proofs.Width.{narrow_facts}
use Rattle.cluster.specs.Record.{row_in}
use Rattle.cluster.proofs.Laws.Rule.{→rules}
use Rattle.cluster.proofs.Theorems.{read_write_back, write_read_back}
use Rattle.lists.specs.Records.{rows_of}
use Rattle.kept.specs.declared.table.Table.{Table}
use Rattle.table.specs.Build.{build_table}
use Rattle.table.specs.Changes.{AcceptedBytes, change_all, rescore_all}
use Rattle.table.proofs.Changing.Changes.{changes_accepted}
use Rattle.table.proofs.Laws.Build.{Buildable, buildable}
use Rattle.table.proofs.Theorems.{built_table_lem}
use Rattle.drawing.specs.Built.{built_from}
use Rattle.demands.specs.Demands.{RowsTell, DrawsTrees, RoundTrips, Demand2}
use Rattle.demands.proofs.Demand3.{fresh}
use Rattle.demands.proofs.Drawn.Told.{rows_tell}
use Rattle.demands.proofs.Drawn.Draws.{draws}
use Rattle.demands.proofs.Drawn.Lines.{prints}

module _ {W : Width} (facts : WidthFacts W) (l : List ℕ) (d : ℕ) (degree : T (is_degree d)) (xs : List Row) (a : AcceptedBytes W l) where
  pub after_changes : (P : List ℕ → Table → Type 0) → ((m : List ℕ) → Buildable W d (rows_of W m) → P m (built_from W d (rows_of W m)))
      → P (change_all W l xs) (rescore_all W (build_table W l d).given xs)
  after_changes P f =
      let m = change_all W l xs in
      let b = changes_accepted facts xs a in
      subst (P m) (sym (fresh facts d degree xs a ∙ built_table_lem W m d degree b.accepted))
      (f m (buildable facts degree b.byte b.accepted))

round_trips : RoundTrips
round_trips = record {
  written_read = λ r room small kept. read_write_back r room (→rules narrow (row_in r) small kept);
  read-written = write_read_back;
}

pub demand2 : Demand2
demand2 = record {
  rows_tell = λ l d xs a q. after_changes narrow_facts l d q xs a (RowsTell narrow d) (rows_tell narrow narrow_facts d);
  draws = λ l d xs a q. after_changes narrow_facts l d q xs a (DrawsTrees narrow d) (draws narrow narrow_facts d);
  prints = λ l d a q. prints l d q a;
  rooms = (refl, refl, refl);
  round_trips = round_trips;
}
