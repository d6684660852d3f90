-- THE DEMANDS (RULES 12), each a record whose fields are its sentences, about the definitions that the promises of the public operations
-- cite. Every request changes this file or leaves it alone. That each is met, for every list of bytes, degree bound, table and room:
-- `proofs/Theorems.antt`. Its words: `Sending.antt` and `Refusals.antt` (demand 1), `Trees.antt` (demand 2), `Worked.antt`, `Lanes.antt`.
--     Demand1             every input has its answer: success exactly when, each refusal exactly when, and what then stays
--     FirstTree W d l ys  demand 2: ys is the tree of the list l that is drawn
--     RowsTell W d l t    demand 2, of each row: the table t tells the trees of the list l
--     DrawsTrees W d l t  demand 2, of what is drawn of it
--     LineIs d l x room   what the line of l is, asked for in a room
--     Prints d l          demand 2, of the printed line
--     RoundTrips          demand 2, of records
--     Demand2             all of this for every accepted list, changed or not, with its table, rescored or not
--     Demand3             a rescored table is the fresh build, and what a rescoring leaves alone
--     Reworks             tables that no build made: what stands in a row that a rescoring works out again
--     BlankLanes          records without a score: they change no answer; and what a rescoring does to the leaf set
--     made_list s room     the list that an import has put at the start of a room
--     MakesLists s room   gel sheets: what that list is, and that a build takes it
--     Demands             all of them, with one outcome for every public operation (`OneOutcome.antt`)
-- Assumes nothing.
use Rattle.std.specs.Prelude.{◌≡◌, ◌≢◌, ◌↔◌, ℕ, ◌*◌, ◌^◌, ◌≤◌, ◌<◌, T, ℤ, length, take, drop}
use mathlib.Core.List.{List, [], ◌++◌, Memᴰ as Mem}
use Rattle.laws.specs.Cluster.{inside}
use Rattle.laws.specs.Limits.{Width, narrow, is_degree, row_cap}
use Rattle.laws.specs.Lists.{keep}
use Rattle.laws.specs.Row.{Row, is_scored}
use Rattle.trees.specs.Heaviest.{weight_of, tie_first}
use Rattle.trees.specs.Built.{row_length, built_table}
use Rattle.trees.specs.Rescored.{put_score}
use Rattle.shapes.specs.Characters.{characters}
use Rattle.shapes.specs.Decimal.{decimal}
use Rattle.shapes.specs.Shape.{Shape}
use Rattle.shapes.specs.Text.{text_bytes}
use Rattle.shapes.specs.Drawn.{ascending}
use Rattle.std.specs.Prelude.{Ok}
use Rattle.answers.specs.Outcome.{outcome_of, put_into, written}
use Rattle.cluster.specs.declared.record.Record.{Record}
use Rattle.cluster.specs.Record.{record_bytes, row_in, record_of, bytes_of}
use Rattle.cluster.specs.Rule.{KeepsScore}
use Rattle.cluster.specs.Reading.{KeepsBytes, zero_record, read_record}
use Rattle.cluster.specs.Writing.{write_record}
use Rattle.lists.specs.Records.{records_in, listed_at, rows_of}
use Rattle.lists.specs.Listing.{listed, read_list}
use Rattle.lists.specs.Accepted.{Bytes, Accepted, HasCluster}
use Rattle.lists.specs.ListFrom.{records_down, has_score, without_unscored}
use Rattle.gel.specs.Lines.{width_of}
use Rattle.gel.specs.Columns.{columns_with, sheet_rows}
use Rattle.gel.specs.Facts.{IsRead, GivenBy, AreLines, SheetCluster, SheetRow, Numbered}
use Rattle.gel.specs.Import.{imported, not_imported, import_sheet}
use Rattle.kept.specs.declared.table.Table.{Table}
use Rattle.kept.specs.View.{row_at, result_at, entry_at, table_of, zero_table}
use Rattle.kept.specs.Fit.{is_fit}
use Rattle.kept.specs.Facts.{FitTable}
use Rattle.kept.specs.Rows.{shown_rows, place_of, leaf_set}
use Rattle.members.specs.Draw.{leaf_row, members_of, no_members, drawn_members, drawn_tree}
use Rattle.table.specs.Build.{build_table}
use Rattle.table.specs.Rescore.{new_table, rescore_table}
use Rattle.table.specs.Changes.{AcceptedBytes, change_all, rescore_all}
use Rattle.drawing.specs.Built.{list_max}
use Rattle.drawing.specs.Draw.{draw_tree, leaf_text, no_text, text_at, drawn_text, draw_text}
use Rattle.digests.specs.Digest.{rescored_times}
use Rattle.report.specs.Words.{signed, refused_line}
use Rattle.report.specs.Line.{line_cap, line_of, line_into}
use Rattle.demands.specs.Sending.{accept, sent_back, Answered}
use Rattle.demands.specs.Refusals.{KeepsRecord, TakenSheet, HasRow, MayBeDrawn}
use Rattle.demands.specs.Refusals.{read_refusals, write_refusals, list_refusals, build_refusals}
use Rattle.demands.specs.Refusals.{sheet_refusals, rescore_refusals, draw_refusals, room_refusals}
use Rattle.demands.specs.Trees.{leaf_set_of, trees_at, trees_of_list, EveryTree, FirstBy, TellsTrees, ShapeOf, printed_count}
use Rattle.demands.specs.Worked.{WorkedRow}
use Rattle.demands.specs.Lanes.{SameScored, SameAnswers, TaxonAfter}
use Rattle.demands.specs.OneOutcome.{OneOutcome}

-- ---- demand 1: every list, every degree bound and every kept table gets an answer

pub record Demand1 : Type 0 where
  -- records
  pub read_record_lem : (l : List ℕ)
      → Answered (read_record l) (read_refusals l) ((length l ≡ record_bytes) × KeepsBytes narrow l) 0 (record_of l) zero_record
  pub write_record_lem : (r : Record) (room : List ℕ) → let out = bytes_of narrow (row_in r) in
      Answered (write_record r room) (write_refusals r room) (KeepsRecord r × (record_bytes ≤ length room)) record_bytes (put_into out room) room
  -- lists; a check alone sends back what reading does
  pub read_list_lem : (l : List ℕ)
      → Answered (read_list narrow l) (list_refusals narrow l) (Accepted narrow l) 0 (listed (rows_of narrow l)) (listed [])
  pub build : (l : List ℕ) (d : ℕ) → let built = table_of d (built_table narrow d (rows_of narrow l)) in
      Answered (build_table narrow l d) (build_refusals narrow l d) (T (is_degree d) × Accepted narrow l) 0 built zero_table
  -- the digests are those of a table that is built and then rescored some times; it is all zero where the list is refused
  pub digested : (l : List ℕ) (d c : ℕ) (z : ℤ) (s n : ℕ) → (T (is_degree d) × Accepted narrow l → ⊥)
      → rescored_times n c z s (build_table narrow l d).given ≡ zero_table
  -- any table, of which 128 rows are shown at most: whether it is fit; the row of a cluster, or the number shown where it has none; and
  -- the taxa of the leaf set, which are those of scored rows
  pub is_fit_lem : (t : Table) → T (is_fit narrow t) ↔ FitTable narrow t
  pub place_of_lem : (t : Table) (c : ℕ) → (place_of t c < shown_rows t) ↔ ((i : ℕ) × (i < shown_rows t) × ((row_at t i).cluster ≡ c))
  pub place_at : (t : Table) (c : ℕ) → place_of t c < shown_rows t → (row_at t (place_of t c)).cluster ≡ c
  pub place_none : (t : Table) (c : ℕ) → (place_of t c < shown_rows t → ⊥) → place_of t c ≡ shown_rows t
  pub leaf_set_lem : (t : Table) (x : ℕ) → T (inside (2 ^ x) (leaf_set t))
      ↔ ((i : ℕ) × (i < shown_rows t) × T (is_scored (row_at t i)) × T (inside (2 ^ x) (row_at t i).cluster))
  -- tables; what stands in one that is rescored is said below
  pub rescore : (t : Table) (c : ℕ) (z : ℤ) (s : ℕ)
      → Answered (rescore_table narrow t c z s) (rescore_refusals narrow t c z s) (FitTable narrow t × HasRow t c × KeepsScore z s) 0
      (new_table narrow t c z s) t
  pub drawn_tree_lem : (t : Table)
      → Answered (drawn_tree narrow t) (draw_refusals narrow t accept) (MayBeDrawn narrow t) 0 (drawn_members t) no_members
  pub drawn_text_lem : (t : Table)
      → Answered (drawn_text narrow t) (draw_refusals narrow t accept) (MayBeDrawn narrow t) (length (leaf_text t)) (text_at t) no_text
  -- tables and rooms
  pub tree : (t : Table) (room : List ℕ) → let out = members_of t in
      Answered (draw_tree narrow t room) (draw_refusals narrow t (room_refusals out room)) (MayBeDrawn narrow t × (length out ≤ length room))
      (length out) (put_into out room) room
  pub text : (t : Table) (room : List ℕ) → let out = leaf_text t in
      Answered (draw_text narrow t room) (draw_refusals narrow t (room_refusals out room)) (MayBeDrawn narrow t × (length out ≤ length room))
      (length out) (put_into out room) room
  -- the text is the print of the one ordered shape of the members
  pub text-shape : (t : Table) → MayBeDrawn narrow t → (s : Shape) × ShapeOf (members_of t) s
  pub shape-only : (t : Table) → MayBeDrawn narrow t → (s u : Shape) → ShapeOf (members_of t) s → ShapeOf (members_of t) u → s ≡ u
  pub text_is : (t : Table) → MayBeDrawn narrow t → (s : Shape) → ShapeOf (members_of t) s → leaf_text t ≡ text_bytes s
  -- gel sheets and rooms; how many clusters there are, which may be too many; what else the list is is said below
  pub import_sheet_lem : (s room : List ℕ)
      → Answered (import_sheet s room) (sheet_refusals s room) (TakenSheet s room) (length (sheet_rows s)) (imported s room) (not_imported room)
  pub clusters : (s : List ℕ) → Numbered (SheetCluster s) (length (sheet_rows s))
  -- bytes and rooms
  pub put : (out room : List ℕ)
      → Answered (written [] out room) (room_refusals out room) (length out ≤ length room) (length out) (put_into out room) room
  -- a list is never refused by the line, which says why the list is
  pub line : (l : List ℕ) (d : ℕ) (room : List ℕ) → let out = line_of l d in
      Answered (line_into l d room) (room_refusals out room) (length out ≤ length room) (length out) (put_into out room) room
  pub line_refused : (l : List ℕ) (d n p : ℕ) → build_refusals narrow l d n p → (room : List ℕ)
      → line_into l d room ≡ written [] (refused_line d (sent_back n p)) room
  pub line-enough : (l : List ℕ) (d : ℕ) (room : List ℕ) → d < 2 ^ 32 → line_cap ≤ length room → (line_into l d room).sent.number ≡ 0

-- ---- demand 2: the trees of a list are counted, and the first heaviest is drawn

module _ (W : Width) (d : ℕ) (l : List ℕ) where
  abbrev records : List Row
  records = rows_of W l

  abbrev trees : List (List ℕ)
  trees = trees_of_list W d l

  -- the tree that is drawn
  abbrev pub FirstTree : List ℕ → Type 0
  FirstTree ys = FirstBy tie_first records trees ys

  module _ (t : Table) where
    pub record RowsTell : Type 0 where
      -- it holds d, and is fit: its rows ascend, and past them all is zero
      pub degree : t.degree ≡ d
      pub fit : FitTable W t
      -- there is a row for each record, and no other
      pub rows : (r : Row) → ((i : ℕ) × (i < t.rows) × (row_at t i ≡ r)) ↔ Mem r records
      -- the trees that are counted are all there are, each once
      pub all-trees : (C : ℕ) → EveryTree W d l C
      -- each row tells the trees on its cluster, and how many tuples it has
      pub each : (i : ℕ) → i < t.rows → TellsTrees W records (trees_at W d l (row_at t i).cluster) (result_at t i)
      pub lengths : (i : ℕ) → i < t.rows → (result_at t i).length ≡ row_length d records (row_at t i)
      -- the leaf set's tells those of the list; where it has none, the list has no tree
      pub leaf_set_lem : leaf_set t ≡ leaf_set_of W l
      pub leaf : leaf_row t < t.rows → TellsTrees W records trees (result_at t (leaf_row t))
      pub no_leaf : (leaf_row t < t.rows → ⊥) → trees ≡ []

    pub record DrawsTrees : Type 0 where
      -- 7 exactly where there is no tree, and never 8
      pub no_tree : (room : List ℕ) → ((draw_tree W t room).sent ≡ sent_back 7 0) ↔ (trees ≡ [])
      pub no_text_lem : (room : List ℕ) → ((draw_text W t room).sent ≡ sent_back 7 0) ↔ (trees ≡ [])
      pub tree-never : (room : List ℕ) → (draw_tree W t room).sent.number ≢ 8
      pub text-never : (room : List ℕ) → (draw_text W t room).sent.number ≢ 8
      -- otherwise there is one tree that none outweighs and that is first of those as heavy
      pub first : trees ≢ [] → (ys : List ℕ) × FirstTree ys
      pub only : (ys zs : List ℕ) → FirstTree ys → FirstTree zs → ys ≡ zs
      -- the best weight is its weight; it is written as clusters, ascending; and as the print of its one ordered shape
      pub best : (ys : List ℕ) → FirstTree ys → (result_at t (leaf_row t)).best ≡ weight_of records ys
      pub tree : (ys : List ℕ) → FirstTree ys → (room : List ℕ) → draw_tree W t room ≡ written [] (ascending ys) room
      pub shape : (ys : List ℕ) → FirstTree ys → (s : Shape) × ShapeOf ys s
      pub shape-only : (ys : List ℕ) → FirstTree ys → (s u : Shape) → ShapeOf ys s → ShapeOf ys u → s ≡ u
      pub text : (ys : List ℕ) → FirstTree ys → (s : Shape) → ShapeOf ys s
          → (room : List ℕ) → draw_text W t room ≡ written [] (text_bytes s) room
      -- rooms that are always enough: two numbers a taxon less one, and as many bytes as a text may have
      pub tree-enough : (room : List ℕ) → list_max W ≤ length room → (draw_tree W t room).sent.number ≢ 11
      pub text-enough : (room : List ℕ) → W.text_bytes ≤ length room → (draw_text W t room).sent.number ≢ 11

-- the line of an accepted list, asked for in a room
abbrev pub LineIs : ℕ → List ℕ → List ℕ → List ℕ → Type 0
LineIs d l bytes room = line_into l d room ≡ written [] bytes room

pub record Prints (d : ℕ) (l : List ℕ) : Type 0 where
  -- 7 where there is no tree, in every room; in a room that is long enough only then, and never 8
  pub no_tree : trees_of_list narrow d l ≡ [] → (room : List ℕ) → LineIs d l (refused_line d (sent_back 7 0)) room
  pub only_then : (room : List ℕ) → line_cap ≤ length room → LineIs d l (refused_line d (sent_back 7 0)) room → trees_of_list narrow d l ≡ []
  pub never : (room : List ℕ) → line_cap ≤ length room → LineIs d l (refused_line d (sent_back 8 0)) room → ⊥
  -- else d, the count or `many`, the weight and the text
  pub line : (ys : List ℕ) → FirstTree narrow d l ys → (s : Shape) → ShapeOf ys s → (room : List ℕ) → LineIs d l
      (decimal d ++ characters " "
      ++ printed_count narrow (length (trees_of_list narrow d l)) ++ characters " "
      ++ signed (weight_of (rows_of narrow l) ys) ++ characters " "
      ++ text_bytes s ++ characters "\n") room
  pub enough : (room : List ℕ) → line_cap ≤ length room → (line_into l d room).sent.number ≢ 11

pub record RoundTrips : Type 0 where
  -- what is written, read again, is the record
  pub written_read : (r : Record) (room : List ℕ) → r.cluster < 2 ^ narrow.taxa → KeepsRecord r → record_bytes ≤ length room
      → read_record (take record_bytes (write_record r room).given) ≡ outcome_of (Ok 0) r
  -- what is read, written again, is the bytes
  pub read-written : (l room : List ℕ) → Bytes l → (read_record l).sent.number ≡ 0 → record_bytes ≤ length room
      → write_record (read_record l).given room ≡ outcome_of (Ok record_bytes) (l ++ drop record_bytes room)

pub record Demand2 : Type 0 where
  pub rows_tell : (l : List ℕ) (d : ℕ) (xs : List Row) → AcceptedBytes narrow l → T (is_degree d)
      → RowsTell narrow d (change_all narrow l xs) (rescore_all narrow (build_table narrow l d).given xs)
  pub draws : (l : List ℕ) (d : ℕ) (xs : List Row) → AcceptedBytes narrow l → T (is_degree d)
      → DrawsTrees narrow d (change_all narrow l xs) (rescore_all narrow (build_table narrow l d).given xs)
  pub prints : (l : List ℕ) (d : ℕ) → AcceptedBytes narrow l → T (is_degree d) → Prints d l
  pub rooms : (list_max narrow ≡ 63) × (narrow.text_bytes ≡ 148) × (line_cap ≡ 172)
  pub round_trips : RoundTrips

-- ---- demand 3: a rescored table is the fresh build of the changed list

pub record Demand3 : Type 0 where
  -- after each of any changes, every field of it
  pub fresh : (l : List ℕ) (d : ℕ) (xs : List Row) → AcceptedBytes narrow l → T (is_degree d)
      → rescore_all narrow (build_table narrow l d).given xs ≡ (build_table narrow (change_all narrow l xs) d).given
  -- where a change is taken: it names the cluster of a record, and has a score
  pub taken : (l : List ℕ) (d : ℕ) (xs : List Row) (c : ℕ) (z : ℤ) (s : ℕ) → AcceptedBytes narrow l → T (is_degree d)
      → ((rescore_table narrow (rescore_all narrow (build_table narrow l d).given xs) c z s).sent.number ≡ 0)
      ↔ (HasCluster narrow (change_all narrow l xs) c × KeepsScore z s)
  -- in any table: a row whose cluster doesn't contain the rescored one isn't changed
  pub others : (t : Table) (c : ℕ) (z : ℤ) (s i : ℕ) → i < t.rows → (T (inside c (row_at t i).cluster) → ⊥)
      → entry_at (rescore_table narrow t c z s).given i ≡ entry_at t i
  -- nor the degree bound, the number of rows, and the rows past it
  pub degree : (t : Table) (c : ℕ) (z : ℤ) (s : ℕ) → (rescore_table narrow t c z s).given.degree ≡ t.degree
  pub rows : (t : Table) (c : ℕ) (z : ℤ) (s : ℕ) → (rescore_table narrow t c z s).given.rows ≡ t.rows
  pub past : (t : Table) (c : ℕ) (z : ℤ) (s i : ℕ) → t.rows ≤ i → i < row_cap
      → entry_at (rescore_table narrow t c z s).given i ≡ entry_at t i

-- ---- tables that no build made

-- an accepted rescoring of any fit table
pub record Reworks : Type 0 where
  -- one row gets the new weight and state
  pub new_score : (t : Table) (c : ℕ) (z : ℤ) (s : ℕ) → (rescore_table narrow t c z s).sent.number ≡ 0 → (i : ℕ) → i < t.rows
      → row_at (rescore_table narrow t c z s).given i ≡ put_score c z s (row_at t i)
  -- and each row that contains it is worked out from the rows of the table as they then stand
  pub worked : (t : Table) (c : ℕ) (z : ℤ) (s : ℕ) → (rescore_table narrow t c z s).sent.number ≡ 0 → (i : ℕ) → i < t.rows
      → T (inside c (row_at t i).cluster) → WorkedRow narrow (rescore_table narrow t c z s).given i
  -- it is fit again
  pub fit : (t : Table) (c : ℕ) (z : ℤ) (s : ℕ) → (rescore_table narrow t c z s).sent.number ≡ 0
      → FitTable narrow (rescore_table narrow t c z s).given

-- ---- blank lanes: records without a score

pub record BlankLanes : Type 0 where
  -- the taxa of a list's leaf set are those of scored records
  pub leaf_set_lem : (l : List ℕ) (x : ℕ) → T (inside (2 ^ x) (leaf_set_of narrow l))
      ↔ ((r : Row) × Mem r (rows_of narrow l) × T (is_scored r) × T (inside (2 ^ x) r.cluster))
  -- a list with its unscored records left out has the scored ones, unchanged and in their order, and is accepted where there is one
  pub records : (l : List ℕ) → AcceptedBytes narrow l
      → records_down narrow (without_unscored narrow l) ≡ keep (has_score narrow) (records_down narrow l)
  pub left : (l : List ℕ) → AcceptedBytes narrow l → (r : Row)
      → Mem r (rows_of narrow (without_unscored narrow l)) ↔ (Mem r (rows_of narrow l) × T (is_scored r))
  pub accepted : (l : List ℕ) → AcceptedBytes narrow l → (r : Row) → Mem r (rows_of narrow l) → T (is_scored r)
      → AcceptedBytes narrow (without_unscored narrow l)
  -- it then has the same answers, whatever the others name
  pub same : (l : List ℕ) (d : ℕ) → AcceptedBytes narrow l → T (is_degree d) → (r : Row) → Mem r (rows_of narrow l) → T (is_scored r)
      → SameAnswers d l (without_unscored narrow l)
  -- so have any two lists with the same scored records
  pub any_two : (l m : List ℕ) (d : ℕ) → AcceptedBytes narrow l → AcceptedBytes narrow m → T (is_degree d) → SameScored narrow l m
      → SameAnswers d l m
  -- where none is scored there is no taxon and no row, in any fit table, and so no tree
  pub none-scored : (t : Table) → FitTable narrow t → ((i : ℕ) → i < t.rows → T (is_scored (row_at t i)) → ⊥)
      → (leaf_set t ≡ 0) × (leaf_row t ≡ t.rows)
  pub no_tree : (t : Table) → FitTable narrow t → ((i : ℕ) → i < t.rows → T (is_scored (row_at t i)) → ⊥) → (room : List ℕ)
      → ((draw_tree narrow t room).sent ≡ sent_back 7 0) × ((draw_text narrow t room).sent ≡ sent_back 7 0)
  -- and the line of a list without a scored record says so
  pub no_line : (l : List ℕ) (d : ℕ) → AcceptedBytes narrow l → T (is_degree d)
      → ((r : Row) → Mem r (rows_of narrow l) → T (is_scored r) → ⊥) → (room : List ℕ) → LineIs d l (refused_line d (sent_back 7 0)) room
  -- the taxa that a rescoring leaves or brings; of a built table, after any number of them, `leaf_set_lem` of `RowsTell` once more
  pub rescored : (t : Table) (c : ℕ) (z : ℤ) (s : ℕ) → (rescore_table narrow t c z s).sent.number ≡ 0 → (x : ℕ)
      → T (inside (2 ^ x) (leaf_set (rescore_table narrow t c z s).given)) ↔ TaxonAfter t c s x
  pub changed : (l : List ℕ) (d : ℕ) (xs : List Row) → AcceptedBytes narrow l → T (is_degree d)
      → leaf_set (rescore_all narrow (build_table narrow l d).given xs) ≡ leaf_set_of narrow (change_all narrow l xs)

-- ---- gel sheets: the list that is made

abbrev pub made_list : List ℕ → List ℕ → List ℕ
made_list s room = let o = import_sheet s room in take (o.sent.told * record_bytes) o.given.room

-- of a sheet that is imported into a room
pub record MakesLists (s room : List ℕ) : Type 0 where
  -- as many records as are told, ascending, and a build takes them at every degree bound
  pub records : records_in narrow (made_list s room) ≡ (import_sheet s room).sent.told
  pub ascends : (i j : ℕ) → i < j → j < records_in narrow (made_list s room)
      → (listed_at narrow (made_list s room) i).cluster < (listed_at narrow (made_list s room) j).cluster
  pub accepted : AcceptedBytes narrow (made_list s room)
  pub built : (d : ℕ) → T (is_degree d) → (build_table narrow (made_list s room) d).sent.number ≡ 0
  -- the rows are the clusters of columns, of each line and of all lines, scored, each with the number of columns that gave it
  pub rows : (d : ℕ) → T (is_degree d) → (r : Row) → let t = (build_table narrow (made_list s room) d).given in
      ((i : ℕ) × (i < t.rows) × (row_at t i ≡ r)) ↔ SheetRow s r
  pub weights : (c : ℕ) → c ≢ 0 → Numbered (λ (j : ℕ). GivenBy s j c) (columns_with s c)
  -- so all lines are the leaf set
  pub leaf_set_lem : AreLines s (leaf_set_of narrow (made_list s room))
  -- the columns with a ? are told, whatever else they hold
  pub unread : Numbered (λ (j : ℕ). (j < width_of s) × (IsRead s j → ⊥)) (import_sheet s room).given.unread

-- ---- all of them

pub record Demands : Type 0 where
  pub demand1 : Demand1
  pub demand2 : Demand2
  pub demand3 : Demand3
  pub reworks : Reworks
  pub blank_lanes : BlankLanes
  pub makes_lists : (s room : List ℕ) → (import_sheet s room).sent.number ≡ 0 → MakesLists s room
  -- strict marking: of each public operation, two outcomes that its promise allows are equal
  pub one_outcome : OneOutcome
