-- ONE OUTCOME (RULES 12): for each public operation, what its `ensures` says, and that two outcomes which that allows are equal. An
-- operation that writes into a room has its answer and every byte of the room for an outcome. Shown in `proofs/OneOutcome.antt`; the gate
-- holds each row against the source (`.ci/promises`). `read_input` has no row: what it hands over is fixed by no argument.
--     Only P          two values of which P holds are equal
--     In o a          an answer with what it was given is the outcome o
--     Imports o a     so for an import
--     OneOutcome      the table, crate by crate
-- Assumes nothing.
use Rattle.std.specs.Prelude.{◌≡◌, Bool, List, [], ℕ, ◌+◌, ◌*◌, ℤ, Option, Result}
use Rattle.std.specs.Int.{w32, w64}
use Rattle.std.proofs.Common.{to_z, of_z}
use Rattle.laws.specs.Cluster.{inside, strict, apart, single}
use Rattle.laws.specs.Cluster as taxa
use Rattle.laws.specs.Limits.{narrow, word_values}
use Rattle.laws.specs.State.{scored}
use Rattle.trees.specs.Tree.{is_tree}
use Rattle.shapes.specs.Decimal.{decimal}
use Rattle.answers.specs.Refusal.{Answer}
use Rattle.answers.specs.declared.refusal.Refusal.{Refusal}
use Rattle.answers.specs.Refusal.{number_of, position_of, sent_of}
use Rattle.answers.specs.Outcome.{Outcome, outcome_of, written}
use Rattle.cluster.specs.declared.reading.Reading.{Reading}
use Rattle.cluster.specs.declared.record.Record.{Record}
use Rattle.cluster.specs.declared.rule.Rule.{Rule}
use Rattle.cluster.specs.Rule.{broken_rule, is_kept, is_score}
use Rattle.cluster.specs.Reading.{reading_of, read_record}
use Rattle.cluster.specs.Writing.{write_record}
use Rattle.lists.specs.declared.listing.Listing.{Listing}
use Rattle.lists.specs.Listing.{listing_of, read_list}
use Rattle.lists.specs.Listing as listing
use Rattle.gel.specs.declared.importing.Import.{Import}
use Rattle.gel.specs.Import.{Imported, import_of, import_sheet, unread_of}
use Rattle.gel.specs.Import as gel
use Rattle.kept.specs.declared.table.Table.{Table}
use Rattle.kept.specs.View.{zero_table}
use Rattle.kept.specs.Fit.{is_fit}
use Rattle.kept.specs.Marks.{has_mark}
use Rattle.kept.specs.Rows.{place_of, leaf_set}
use Rattle.members.specs.declared.draw.Drawn.{Drawn}
use Rattle.members.specs.Draw.{drawn_tree, drawn_of}
use Rattle.table.specs.declared.making.Built.{Built}
use Rattle.table.specs.declared.rescoring.Rescored.{Rescored}
use Rattle.table.specs.Build.{build_table}
use Rattle.table.specs.Rescore.{rescore_table}
use Rattle.texts.specs.declared.text.Text.{Text}
use Rattle.texts.specs.Text.{holding, with_bytes}
use Rattle.drawing.specs.declared.drawing.DrawnText.{DrawnText}
use Rattle.drawing.specs.Draw.{draw_tree, drawn_text, drawn_text_of, draw_text}
use Rattle.report.specs.Line.{line_into}
use Rattle.report.specs.Sheet.{sheet_line}
use Rattle.digests.specs.Digest.{digest, rescored_times}
use Rattle.digests.specs.Told.{told_of}

module _ {A : Type 0} where
  abbrev pub Only : (A → Type 0) → Type 0
  Only P = (x y : A) → P x → P y → x ≡ y

-- an answer, with the room afterwards
abbrev pub In : Outcome (List ℕ) → Answer × List ℕ → Type 0
In o a = outcome_of a.0 a.1 ≡ o

-- an import, with the room afterwards
abbrev pub Imports : Outcome Imported → Result Import Refusal × List ℕ → Type 0
Imports o a = import_of a.0 a.1 ≡ o

pub record OneOutcome : Type 0 where
  -- taxa
  pub is_inside : (a b : ℕ) → Only (λ (r : Bool). r ≡ inside a b)
  pub is_strict : (a b : ℕ) → Only (λ (r : Bool). r ≡ strict a b)
  pub is_apart : (a b : ℕ) → Only (λ (r : Bool). r ≡ apart a b)
  pub size : (c : ℕ) → Only (λ (r : ℕ). r ≡ taxa.size c)
  pub is_single : (c : ℕ) → Only (λ (r : Bool). r ≡ single c)
  pub highest : (c : ℕ) → Only (λ (r : ℕ). r ≡ taxa.highest c)
  pub lowest : (c : ℕ) → Only (λ (r : ℕ). r ≡ taxa.lowest 64 c)
  -- signed
  pub signed_of : (n : ℕ) → Only (λ (z : ℤ). z ≡ to_z w32 n)
  pub unsigned_of : (z : ℤ) → Only (λ (n : ℕ). n ≡ of_z w32 z)
  pub signed_long_of : (n : ℕ) → Only (λ (z : ℤ). z ≡ to_z w64 n)
  pub unsigned_long_of : (z : ℤ) → Only (λ (n : ℕ). n ≡ of_z w64 z)
  -- answers
  pub number_of : (refusal : Refusal) → Only (λ (n : ℕ). n ≡ number_of refusal)
  pub position_of : (refusal : Refusal) → Only (λ (n : ℕ). n ≡ position_of refusal)
  -- cluster
  pub is_scored : (state : ℕ) → Only (λ (r : Bool). r ≡ scored state)
  pub broken_rule : (cluster : ℕ) (weight : ℤ) (state : ℕ) (spare : Bool)
      → Only (λ (rule : Option Rule). rule ≡ broken_rule cluster weight state spare)
  pub is_score : (weight : ℤ) (state : ℕ) → Only (λ (b : Bool). b ≡ is_score weight state)
  pub is_kept : (rule : Option Rule) → Only (λ (b : Bool). b ≡ is_kept rule)
  pub read_record : (bytes : List ℕ) → Only (λ (r : Reading). reading_of r ≡ read_record bytes)
  pub write_record : (r : Record) (room : List ℕ) → Only (In (write_record r room))
  -- lists
  pub read_list : (list : List ℕ) → Only (λ (r : Result Listing Refusal). listing_of r ≡ read_list narrow list)
  pub check_list : (list : List ℕ) → Only (λ (a : Answer). sent_of a ≡ (listing.read_list narrow list).sent)
  -- gel
  pub import_sheet : (sheet room : List ℕ) → Only (Imports (import_sheet sheet room))
  pub unread_of : (import : Result Import Refusal) → Only (λ (n : ℕ). n ≡ unread_of import)
  -- kept
  pub zero_table : Only (λ (t : Table). t ≡ zero_table)
  pub is_fit : (t : Table) → Only (λ (b : Bool). b ≡ is_fit narrow t)
  pub place_of : (t : Table) (cluster : ℕ) → Only (λ (i : ℕ). i ≡ place_of t cluster)
  pub leaf_set : (t : Table) → Only (λ (c : ℕ). c ≡ leaf_set t)
  pub is_marked : (low high i : ℕ) → Only (λ (b : Bool). b ≡ has_mark (low + word_values * high) i)
  -- members
  pub is_tree : (clusters : List ℕ) (top degree : ℕ) → Only (λ (r : Bool). r ≡ is_tree narrow.taxa degree top clusters)
  pub drawn_tree : (t : Table) → Only (λ (r : Result Drawn Refusal). drawn_of r ≡ drawn_tree narrow t)
  -- table
  pub build : (list : List ℕ) (degree : ℕ) → Only (λ (b : Built). outcome_of b.answer b.table ≡ build_table narrow list degree)
  pub rescore : (given : Table) (cluster : ℕ) (weight : ℤ) (state : ℕ)
      → Only (λ (r : Rescored). outcome_of r.answer r.table ≡ rescore_table narrow given cluster weight state)
  -- texts
  pub empty : Only (λ (r : Text). r ≡ holding [])
  pub add : (text : Text) (bytes : List ℕ) → Only (λ (r : Text). r ≡ with_bytes text bytes)
  pub add_decimal : (text : Text) (n : ℕ) → Only (λ (r : Text). r ≡ with_bytes text (decimal n))
  pub put : (bytes room : List ℕ) → Only (In (written [] bytes room))
  -- drawing
  pub tree : (t : Table) (room : List ℕ) → Only (In (draw_tree narrow t room))
  pub drawn_text : (t : Table) → Only (λ (r : Result DrawnText Refusal). drawn_text_of r ≡ drawn_text narrow t)
  pub text : (t : Table) (room : List ℕ) → Only (In (draw_text narrow t room))
  -- report
  pub line : (list : List ℕ) (degree : ℕ) (room : List ℕ) → Only (In (line_into list degree room))
  pub sheet_line : (answer : Answer) (unread : ℕ) → Only (λ (r : Text). r ≡ with_bytes (holding []) (sheet_line (sent_of answer) unread))
  -- digests
  pub ladlepine_build : (list : List ℕ) (degree : ℕ) → Only (λ (r : ℕ). r ≡ digest (build_table narrow list degree).given)
  pub ladlepine_rescore : (list : List ℕ) (degree cluster : ℕ) (weight : ℤ) (state times : ℕ)
      → Only (λ (r : ℕ). r ≡ digest (rescored_times times cluster weight state (build_table narrow list degree).given))
  pub ladlepine_import : (sheet room : List ℕ) → Only (λ (r : ℕ × List ℕ). r ≡ told_of (gel.import_sheet sheet room))
