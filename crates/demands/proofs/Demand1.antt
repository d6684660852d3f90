-- DEMAND 1 IS MET: every input has its answer, operation by operation.
--     demand1      the record of `specs/Demands.antt`
-- Assumes nothing.
use mathlib.Core.Path.{◌≡◌, refl, sym, ap, ◌∙◌}
use mathlib.Core.Option.{Option}
use mathlib.Core.List.{List, []}
use Prim.Native.Nat.{ℕ, zero, suc, ◌^◌, ◌≤◌, ◌<◌}
use native.Mathlib.Nat.{le_trans}
use native.Mathlib.Omega.{arith}
use lib.Dec.{T}
use lib.IntN.{ℤ}
use lib.ListN.{length}
use Rattle.laws.specs.Cluster.{size}
use Rattle.laws.specs.Limits.{narrow, is_degree}
use Rattle.laws.proofs.Width.{narrow_facts}
use Rattle.answers.specs.declared.refusal.Refusal.{Refusal}
use Rattle.answers.specs.Refusal.{Sent}
use Rattle.answers.specs.Outcome.{put_into, written}
use Rattle.answers.proofs.Laws.Reasons.{first_iff, none_iff}
use Rattle.cluster.specs.declared.record.Record.{Record}
use Rattle.cluster.specs.Record.{record_bytes, row_in, record_of, bytes_of}
use Rattle.cluster.specs.Rule.{KeepsScore}
use Rattle.cluster.specs.Reading.{KeepsBytes, zero_record, read_reasons, read_record}
use Rattle.cluster.specs.Writing.{write_reasons, write_record}
use Rattle.lists.specs.Records.{rows_of}
use Rattle.lists.specs.Listing.{listed, list_reasons, read_list}
use Rattle.lists.specs.Accepted.{Accepted}
use Rattle.lists.proofs.Theorems.{accepted_iff}
use Rattle.gel.specs.Columns.{sheet_rows}
use Rattle.gel.specs.Import.{imported, not_imported, import_reasons, import_sheet}
use Rattle.gel.proofs.MadeLists.{counted-clusters}
use Rattle.kept.specs.declared.table.Table.{Table}
use Rattle.kept.specs.View.{table_of, zero_table}
use Rattle.kept.specs.Facts.{FitTable}
use Rattle.kept.specs.Rows.{leaf_set}
use Rattle.kept.proofs.Laws.Rows.{place_at, place_none, place_iff, leaf_set_iff}
use Rattle.trees.specs.Built.{built_table}
use Rattle.shapes.specs.Shape.{Shape}
use Rattle.shapes.specs.Text.{text_bytes}
use Rattle.shapes.specs.Drawn.{shape_of}
use Rattle.shapes.specs.Nests.{TreeOn}
use Rattle.members.specs.Draw.{members_of, no_members, drawn_members, draw_reasons, drawn_tree}
use Rattle.members.proofs.Drawable.{drawable}
use Rattle.table.specs.Build.{build_reasons, build_table}
use Rattle.table.specs.Rescore.{rescore_reasons, new_table, rescore_table}
use Rattle.drawing.specs.Draw.{draw_tree, leaf_text, no_text, text_at, drawn_text, draw_text}
use Rattle.drawing.proofs.Laws.Draw.{tree_on}
use Rattle.digests.specs.Digest.{rescored_times}
use Rattle.report.specs.Words.{refused_line}
use Rattle.report.specs.Line.{line_cap, line_for, table_line, line_of, line_into}
use Rattle.report.proofs.Laws.Line.{line-length-le, line-put}
use Rattle.demands.specs.Sending.{accept, sent_back, Answered}
use Rattle.demands.specs.Refusals.{KeepsRecord, TakenSheet, HasRow, MayBeDrawn}
use Rattle.demands.specs.Refusals.{read_refusals, write_refusals, list_refusals, build_refusals}
use Rattle.demands.specs.Refusals.{sheet_refusals, rescore_refusals, draw_refusals, room_refusals}
use Rattle.demands.specs.Trees.{ShapeOf}
use Rattle.demands.specs.Demands.{Demand1}
use Rattle.demands.proofs.Shapes.{shape_of_lem, shape_is}
use Rattle.demands.proofs.Answered.{says_none, says_room, refusal_is, answered, answered_room, answered-given}
use Rattle.demands.proofs.Reasons.{says_reading, reading_none, says_writing, writing_none, says_listing, says_building}
use Rattle.demands.proofs.Reasons.{says_importing, importing_none}
use Rattle.demands.proofs.Reasons.{building_none, fit_iff, says_rescoring, rescoring-none, says_drawing, drawing_none}

-- ---- records

read_answered : (l : List ℕ)
    → Answered (read_record l) (read_refusals l) ((length l ≡ record_bytes) × KeepsBytes narrow l) 0 (record_of l) zero_record
unfolding read_record
read_answered l = answered (read_reasons l) zero_record 0 (record_of l) (says_reading l) (reading_none l)

write_answered : (r : Record) (room : List ℕ) → let out = bytes_of narrow (row_in r) in
    Answered (write_record r room) (write_refusals r room) (KeepsRecord r × (record_bytes ≤ length room)) record_bytes (put_into out room) room
unfolding write_record
write_answered r room =
    let out = bytes_of narrow (row_in r) in
    answered_room out room (write_reasons r) (says_writing r (says_room out room)) (writing_none r)

-- ---- lists

list_answered : (l : List ℕ)
    → Answered (read_list narrow l) (list_refusals narrow l) (Accepted narrow l) 0 (listed (rows_of narrow l)) (listed [])
unfolding read_list
list_answered l =
    answered (list_reasons narrow l) (listed []) 0 (listed (rows_of narrow l)) (says_listing narrow l) (accepted_iff narrow l)

build_answered : (l : List ℕ) (d : ℕ) → let built = table_of d (built_table narrow d (rows_of narrow l)) in
    Answered (build_table narrow l d) (build_refusals narrow l d) (T (is_degree d) × Accepted narrow l) 0 built zero_table
unfolding build_table
build_answered l d =
    answered (build_reasons narrow l d) zero_table 0 (table_of d (built_table narrow d (rows_of narrow l)))
    (says_building narrow l d) (building_none narrow l d)

-- ---- gel sheets

import_answered : (s room : List ℕ)
    → Answered (import_sheet s room) (sheet_refusals s room) (TakenSheet s room) (length (sheet_rows s)) (imported s room) (not_imported room)
unfolding import_sheet
import_answered s room =
    answered (import_reasons s room) (not_imported room) (length (sheet_rows s)) (imported s room) (says_importing s room)
    (importing_none s room)

-- ---- tables

rescore_answered : (t : Table) (c : ℕ) (z : ℤ) (s : ℕ)
    → Answered (rescore_table narrow t c z s) (rescore_refusals narrow t c z s) (FitTable narrow t × HasRow t c × KeepsScore z s) 0
    (new_table narrow t c z s) t
unfolding rescore_table
rescore_answered t c z s =
    answered (rescore_reasons narrow t c z s) t 0 (new_table narrow t c z s) (says_rescoring t c narrow narrow_facts z s)
    (rescoring-none t c narrow narrow_facts z s)

module _ (t : Table) where
  drawn_tree_answered : Answered (drawn_tree narrow t) (draw_refusals narrow t accept) (MayBeDrawn narrow t) 0 (drawn_members t) no_members
  unfolding drawn_tree
  drawn_tree_answered =
      answered (draw_reasons narrow t) no_members 0 (drawn_members t)
      (says_drawing narrow narrow_facts t says_none) (drawing_none narrow narrow_facts t)

  drawn-text-answered :
      Answered (drawn_text narrow t) (draw_refusals narrow t accept) (MayBeDrawn narrow t) (length (leaf_text t)) (text_at t) no_text
  unfolding drawn_text
  drawn-text-answered =
      answered (draw_reasons narrow t) no_text (length (leaf_text t)) (text_at t)
      (says_drawing narrow narrow_facts t says_none) (drawing_none narrow narrow_facts t)

  -- whatever is drawn, into a room
  drawing_answered : (out room : List ℕ) → Answered (written (draw_reasons narrow t) out room)
      (draw_refusals narrow t (room_refusals out room)) (MayBeDrawn narrow t × (length out ≤ length room))
      (length out) (put_into out room) room
  drawing_answered out room =
      answered_room out room (draw_reasons narrow t)
      (says_drawing narrow narrow_facts t (says_room out room)) (drawing_none narrow narrow_facts t)

  module _ (room : List ℕ) where
    tree_answered : Answered (draw_tree narrow t room) (draw_refusals narrow t (room_refusals (members_of t) room))
        (MayBeDrawn narrow t × (length (members_of t) ≤ length room)) (length (members_of t)) (put_into (members_of t) room) room
    unfolding draw_tree
    tree_answered = drawing_answered (members_of t) room

    text_answered : Answered (draw_text narrow t room) (draw_refusals narrow t (room_refusals (leaf_text t) room))
        (MayBeDrawn narrow t × (length (leaf_text t) ≤ length room)) (length (leaf_text t)) (put_into (leaf_text t) room) room
    unfolding draw_text
    text_answered = drawing_answered (leaf_text t) room

-- ---- the digests

zero_unfit : FitTable narrow zero_table → ⊥
zero_unfit f = omega (arith, f.bounds.filled)

module _ (c : ℕ) (z : ℤ) (s : ℕ) where
  -- a table of noughts isn't fit, so that no rescoring of it is taken
  zero-rescored : (n : ℕ) → rescored_times n c z s zero_table ≡ zero_table
  unfolding rescored_times
  zero-rescored zero = refl
  zero-rescored (suc n) =
      ap (λ (t : Table). (rescore_table narrow t c z s).given) (zero-rescored n)
      ∙ (rescore_answered zero_table c z s).stays (λ e. zero_unfit ((rescore_answered zero_table c z s).taken.0 e).0)

  digested : (l : List ℕ) (d n : ℕ) → (T (is_degree d) × Accepted narrow l → ⊥)
      → rescored_times n c z s (build_table narrow l d).given ≡ zero_table
  digested l d n f =
      ap (rescored_times n c z s) ((build_answered l d).stays (λ e. f ((build_answered l d).taken.0 e))) ∙ zero-rescored n

-- ---- the text of any table that may be drawn

module _ (t : Table) (h : MayBeDrawn narrow t) where
  members-tree : TreeOn (members_of t) (leaf_set t)
  members-tree =
      tree_on narrow narrow_facts (drawable narrow narrow_facts t ((none_iff (draw_reasons narrow t)).1
      ((drawing_none narrow narrow_facts t).1 h)))

  text-shape : (s : Shape) × ShapeOf (members_of t) s
  text-shape = (shape_of (size (leaf_set t)) (members_of t) (leaf_set t), shape_of_lem (leaf_set t) (members_of t) members-tree)

  shape-only : (s u : Shape) → ShapeOf (members_of t) s → ShapeOf (members_of t) u → s ≡ u
  shape-only s u k j =
      shape_is (leaf_set t) (members_of t) members-tree s k ∙ sym (shape_is (leaf_set t) (members_of t) members-tree u j)

  text_is : (s : Shape) → ShapeOf (members_of t) s → leaf_text t ≡ text_bytes s
  text_is s k = ap text_bytes (sym (shape_is (leaf_set t) (members_of t) members-tree s k))

-- ---- the line

module _ (l : List ℕ) (d : ℕ) where
  line_answered : (room : List ℕ)
      → Answered (line_into l d room) (room_refusals (line_of l d) room) (length (line_of l d) ≤ length room) (length (line_of l d))
      (put_into (line_of l d) room) room
  unfolding line_into
  line_answered room = answered-given (line_of l d) room

  refused_line_lem : (n p : ℕ) → build_refusals narrow l d n p → line_of l d ≡ refused_line d (sent_back n p)
  unfolding line_of
  refused_line_lem n p h =
      let k = ((says_building narrow l d).told n p).1 h in
      let built = table_line d (build_table narrow l d).given in
      ap (λ (o : Option Refusal). line_for d o built) ((first_iff (build_reasons narrow l d) k.0).1 k.1)
      ∙ ap (λ (s : Sent). refused_line d s) (refusal_is k.0 k.2 k.3)

  line_refused : (n p : ℕ) → build_refusals narrow l d n p → (room : List ℕ)
      → line_into l d room ≡ written [] (refused_line d (sent_back n p)) room
  line_refused n p h room = sym (line-put l d room) ∙ ap (λ (out : List ℕ). written [] out room) (refused_line_lem n p h)

  line-enough : (room : List ℕ) → d < 2 ^ 32 → line_cap ≤ length room → (line_into l d room).sent.number ≡ 0
  line-enough room h k = (line_answered room).taken.1 (le_trans (line-length-le l d h) k)

-- ---- all of them

pub demand1 : Demand1
demand1 = record {
  read_record_lem = read_answered;
  write_record_lem = write_answered;
  read_list_lem = list_answered;
  build = build_answered;
  digested = λ l d c z s n. digested c z s l d n;
  is_fit_lem = fit_iff narrow narrow_facts;
  place_of_lem = place_iff;
  place_at = place_at;
  place_none = place_none;
  leaf_set_lem = leaf_set_iff;
  rescore = rescore_answered;
  drawn_tree_lem = drawn_tree_answered;
  drawn_text_lem = drawn-text-answered;
  tree = tree_answered;
  text = text_answered;
  text-shape = text-shape;
  shape-only = shape-only;
  text_is = text_is;
  import_sheet_lem = import_answered;
  clusters = counted-clusters;
  put = answered-given;
  line = line_answered;
  line_refused = line_refused;
  line-enough = line-enough;
}
