-- LISTS ARE MADE OF GEL SHEETS: what stands at the start of the room after an import is a list that a build takes, and what its rows are.
--     makes_lists     the record of `specs/Demands.antt`
-- Assumes nothing.
use mathlib.Core.Path.{◌≡◌, refl, sym, ap, ap₂, ◌∙◌, subst}
use mathlib.Core.Logic.{◌↔◌}
use mathlib.Core.List.{List, [], Memᴰ as Mem}
use Prim.Native.Nat.{ℕ, ◌*◌, ◌<◌}
use lib.Dec.{T}
use lib.ListN.{length, take, drop}
use lib.Seq.{take_at}
use Rattle.laws.specs.Limits.{narrow, is_degree}
use Rattle.laws.specs.Row.{Row}
use Rattle.answers.specs.Refusal.{Sent}
use Rattle.trees.specs.Rows.{leaves}
use Rattle.cluster.specs.Record.{record_bytes}
use Rattle.lists.specs.Records.{records_in, listed_at}
use Rattle.gel.specs.Lines.{line_count, width_of}
use Rattle.gel.specs.Columns.{all_of, sheet_rows, sheet_bytes}
use Rattle.gel.specs.Facts.{IsRead, AreLines, SheetRow, Numbered}
use Rattle.gel.specs.Import.{Imported, imported, not_imported, import_sheet}
use Rattle.gel.proofs.Laws.Imported.{bytes-length}
use Rattle.gel.proofs.Laws.Made.{Sized}
use Rattle.gel.proofs.Laws.Numbered.{counted-columns, counted-unread}
use Rattle.gel.proofs.Laws.Ones.{all_iff}
use Rattle.gel.proofs.Theorems.{right-sized}
use Rattle.gel.proofs.MadeLists.{row_iff, made_back, made_bytes, made_accepted, made_records, made_ascends, made_leaves}
use Rattle.kept.specs.View.{row_at}
use Rattle.table.specs.Build.{build_table}
use Rattle.table.specs.Changes.{AcceptedBytes}
use Rattle.demands.specs.Sending.{Answered}
use Rattle.demands.specs.Refusals.{TakenSheet, sheet_refusals}
use Rattle.demands.specs.Trees.{leaf_set_of}
use Rattle.demands.specs.Demands.{made_list, MakesLists}
use Rattle.demands.proofs.Demand1.{demand1}
use Rattle.demands.proofs.Demand2.{demand2}

module _ (s room : List ℕ) where
  answered :
      Answered (import_sheet s room) (sheet_refusals s room) (TakenSheet s room) (length (sheet_rows s)) (imported s room) (not_imported room)
  answered = demand1.import_sheet_lem s room

  module _ (done : (import_sheet s room).sent.number ≡ 0) where
    taken : TakenSheet s room
    taken = answered.taken.0 done

    sized : Sized s
    sized = right-sized s taken.right

    told_is : (import_sheet s room).sent.told ≡ length (sheet_rows s)
    told_is = ap (λ (t : Sent). t.told) (answered.tells done)

    list_is : made_list s room ≡ sheet_bytes s
    list_is =
        ap₂ (λ (n : ℕ) (i : Imported). take n i.room) (ap (λ (n : ℕ). n * record_bytes) told_is ∙ sym (bytes-length s room))
        (answered.gives done)
        ∙ take_at (sheet_bytes s) (drop (length (sheet_bytes s)) room) (length (sheet_bytes s)) refl

    list_accepted : AcceptedBytes narrow (sheet_bytes s)
    list_accepted = record { byte = made_bytes s sized; accepted = made_accepted s sized taken.few }

    -- what is said of a list
    abbrev Ascends : List ℕ → Type 0
    Ascends l = (i j : ℕ) → i < j → j < records_in narrow l → (listed_at narrow l i).cluster < (listed_at narrow l j).cluster

    abbrev TableRow : ℕ → Row → List ℕ → Type 0
    TableRow d r l = let t = (build_table narrow l d).given in ((i : ℕ) × (i < t.rows) × (row_at t i ≡ r)) ↔ SheetRow s r

    table-rows : (d : ℕ) → T (is_degree d) → (r : Row) → TableRow d r (sheet_bytes s)
    table-rows d q r =
        let table = (demand2.rows_tell (sheet_bytes s) d [] list_accepted q).rows r in
        let sheet = row_iff s r in (
          λ k. sheet.0 (subst (Mem r) (made_back s sized) (table.0 k)),
          λ k. table.1 (subst (Mem r) (sym (made_back s sized)) (sheet.1 k)),
        )

    pub makes_lists : MakesLists s room
    makes_lists = record {
      records = ap (records_in narrow) list_is ∙ made_records s sized ∙ sym told_is;
      ascends = subst Ascends (sym list_is) (made_ascends s sized);
      accepted = subst (AcceptedBytes narrow) (sym list_is) list_accepted;
      built = λ d q. subst (λ (l : List ℕ). (build_table narrow l d).sent.number ≡ 0) (sym list_is)
          ((demand1.build (sheet_bytes s) d).taken.1 (q, list_accepted.accepted));
      rows = λ d q r. subst (TableRow d r) (sym list_is) (table-rows d q r);
      weights = counted-columns s;
      leaf_set_lem = subst (AreLines s) (sym leaves_are) (all_iff s);
      unread = subst (Numbered (λ (j : ℕ). (j < width_of s) × (IsRead s j → ⊥)))
          (sym (ap (λ (i : Imported). i.unread) (answered.gives done))) (counted-unread s);
    }
      where
        leaves_are : leaf_set_of narrow (made_list s room) ≡ all_of (line_count s)
        leaves_are =
            ap (leaf_set_of narrow) list_is ∙ ap leaves (made_back s sized) ∙ made_leaves s sized
