-- A rescored table by its rows: the new score, and each row that contains the rescored cluster worked out over all rows of the table.
--     new_row, new_stands     row i, and its results where it contains the rescored cluster
-- Assumes nothing.
use mathlib.Core.Path.{◌≡◌, refl, sym, ap, ap₂, ◌∙◌, subst}
use mathlib.Core.List.{List, map}
use mathlib.Core.List.{Memᴰ as Mem}
use Prim.Native.Nat.{ℕ, ◌<◌}
use lib.Dec.{T}
use lib.IntN.{ℤ}
use Rattle.laws.specs.Cluster.{inside}
use Rattle.laws.specs.Limits.{Width}
use Rattle.laws.specs.Orders.{Falling, down_to}
use Rattle.laws.specs.Widths.{WidthFacts}
use Rattle.laws.proofs.Appended.{map-through}
use Rattle.laws.proofs.Down.{down_at, down_map, down_mem}
use Rattle.trees.specs.Rows.{cl}
use Rattle.trees.specs.Beneath.{Beneath}
use Rattle.trees.specs.Rescored.{worked_out, put_score, rescored}
use Rattle.trees.proofs.Rescore.{put-cluster, again-rows, rescored-clusters}
use Rattle.kept.specs.declared.table.Table.{Table}
use Rattle.kept.specs.View.{row_at, result_at, entry_at, entries_of, clusters_in}
use Rattle.kept.specs.Fit.{is_fit}
use Rattle.kept.proofs.Laws.View.{entries_table}
use Rattle.table.specs.Rescore.{new_table}
use Rattle.table.proofs.Changing.RescoredTables.{new_count}
use Rattle.table.proofs.Fitting.FitTables.{FitRows, fit-nonzero, fit-rows, put_entry}
use Rattle.trees.proofs.Standing.{Full, again_stands}

module _ (W : Width) (t : Table) (c : ℕ) (z : ℤ) (s : ℕ) where
  abbrev new : Table
  new = new_table W t c z s

  abbrev entries : List Beneath
  entries = entries_of t t.rows

  abbrev put : List Beneath
  put = map (put_entry c z s) entries

  abbrev changed : List Beneath
  changed = rescored W t.degree (clusters_in t) c z s entries

  entries_new : entries_of new new.rows ≡ changed
  entries_new = entries_table t.degree changed

  clusters_new : clusters_in new ≡ clusters_in t
  clusters_new = ap (map cl) entries_new ∙ rescored-clusters W t.degree (clusters_in t) c z s entries

  rows_new : down_to (row_at new) t.rows ≡ down_to (λ (i : ℕ). put_score c z s (row_at t i)) t.rows
  rows_new =
      ap (down_to (row_at new)) (sym (new_count W t c z s))
      ∙ sym (down_map (λ (e : Beneath). e.row) (entry_at new) new.rows)
      ∙ ap (map (λ (e : Beneath). e.row)) entries_new
      ∙ again-rows (worked_out W t.degree (clusters_in t)) c put
      ∙ map-through (put_entry c z s) (λ (e : Beneath). e.row) (λ (e : Beneath). put_score c z s e.row) (λ e. refl) entries
      ∙ down_map (λ (e : Beneath). put_score c z s e.row) (entry_at t) t.rows

  pub new_row : (i : ℕ) → i < t.rows → row_at new i ≡ put_score c z s (row_at t i)
  new_row = down_at (row_at new) (λ (i : ℕ). put_score c z s (row_at t i)) t.rows rows_new

  module _ (facts : WidthFacts W) (fit : T (is_fit W t)) where
    stand : (x : Beneath) → Mem x changed → T (inside c (cl x)) → x.val ≡ worked_out W t.degree (clusters_in t) x.row changed
    stand =
        again_stands W t.degree c (clusters_in t) put (subst Falling (sym same) rows.falls)
        (subst Full (sym same) (fit-nonzero W t.degree entries rows))
      where
        rows : FitRows W t.degree entries
        rows = fit-rows W facts t fit

        same : map cl put ≡ map cl entries
        same = map-through (put_entry c z s) cl cl (λ e. put-cluster c z s e.row) entries

    pub new_stands : (i : ℕ) → i < new.rows → T (inside c (row_at new i).cluster)
        → result_at new i ≡ worked_out W new.degree (clusters_in new) (row_at new i) (entries_of new new.rows)
    new_stands i l h =
        stand (entry_at new i) (subst (Mem (entry_at new i)) entries_new (down_mem (entry_at new) new.rows i l)) h
        ∙ ap₂ (λ (cs : List ℕ) (es : List Beneath). worked_out W t.degree cs (row_at new i) es) (sym clusters_new) (sym entries_new)
