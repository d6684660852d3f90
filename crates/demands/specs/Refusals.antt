-- When each refusal is given (RULES 8): for every operation the refusals that it tests, in their order, in the words of the rules; and
-- what a success asks, which is that none of them applies.
--     KeepsRecord r          a record keeps the record rules
--     TakenSheet s room      a gel sheet without faults, with few clusters, and room for its list
--     HasRow t c             the cluster c has a row in the table t
--     HasTree t              the leaf set has a row, and its count isn't zero
--     MarksTree W t          the rows marked in the leaf set's row are a tree on the leaf set of that row's best weight
--     MayBeDrawn W t         the table is fit, and both
--     read_refusals, write_refusals, list_refusals, build_refusals, sheet_refusals, rescore_refusals, draw_refusals, room_refusals     what each
--                            operation sends back, and when; of a drawing and of a room with what is tested after
-- Assumes nothing.
use Rattle.std.specs.Prelude.{◌≡◌, ◌≢◌, false, ℕ, ◌%◌, ◌≤◌, ◌<◌, T, ℤ, length}
use mathlib.Core.List.{List, map, Memᴰ as Mem}
use Rattle.laws.specs.Limits.{Width, narrow, is_degree}
use Rattle.laws.specs.Row.{is_scored}
use Rattle.trees.specs.Tree.{is_tree}
use Rattle.cluster.specs.declared.record.Record.{Record}
use Rattle.cluster.specs.Record.{record_bytes}
use Rattle.cluster.specs.Rule.{Keeps, KeepsScore}
use Rattle.cluster.specs.Reading.{KeepsBytes}
use Rattle.lists.specs.Accepted.{FirstBad, FirstRepeat}
use Rattle.gel.specs.Columns.{sheet_rows, sheet_bytes}
use Rattle.gel.specs.Facts.{FirstWrong, RightSheet}
use Rattle.kept.specs.declared.table.Table.{Table}
use Rattle.kept.specs.View.{row_at, result_at}
use Rattle.kept.specs.Facts.{FitTable}
use Rattle.kept.specs.Rows.{leaf_set}
use Rattle.members.specs.Marked.{total}
use Rattle.members.specs.Draw.{leaf_row, marked_rows, members_of}
use Rattle.demands.specs.Sending.{Sending, accept, refuse, refuse_at}

-- ---- records and lists

abbrev pub KeepsRecord : Record → Type 0
KeepsRecord r = Keeps r.cluster r.weight r.state false

abbrev pub read_refusals : List ℕ → Sending
read_refusals l = refuse 2 (length l ≢ record_bytes) (refuse 5 (KeepsBytes narrow l → ⊥) accept)

abbrev pub list_refusals : Width → List ℕ → Sending
list_refusals W l =
    refuse 1 (length l ≡ 0)
    (refuse 3 (W.list_bytes < length l)
    (refuse 2 (length l % W.record_bytes ≢ 0)
    (refuse_at 5 (FirstBad W l)
    (refuse_at 6 (FirstRepeat W l) accept))))

abbrev pub build_refusals : Width → List ℕ → ℕ → Sending
build_refusals W l d = refuse 4 (T (is_degree d) → ⊥) (list_refusals W l)

-- ---- rooms

abbrev pub room_refusals : List ℕ → List ℕ → Sending
room_refusals out room = refuse 11 (length room < length out) accept

abbrev pub write_refusals : Record → List ℕ → Sending
write_refusals r room = refuse 5 (KeepsRecord r → ⊥) (refuse 11 (length room < record_bytes) accept)

-- ---- gel sheets

abbrev pub sheet_refusals : List ℕ → List ℕ → Sending
sheet_refusals s room =
    refuse_at 12 (FirstWrong s) (refuse 13 (narrow.rows < length (sheet_rows s)) (room_refusals (sheet_bytes s) room))

pub record TakenSheet (s room : List ℕ) : Type 0 where
  pub right : RightSheet s
  pub few : length (sheet_rows s) ≤ narrow.rows
  pub fits : length (sheet_bytes s) ≤ length room

-- ---- tables

abbrev pub HasRow : Table → ℕ → Type 0
HasRow t c = (i : ℕ) × (i < t.rows) × ((row_at t i).cluster ≡ c)

abbrev pub rescore_refusals : Width → Table → ℕ → ℤ → ℕ → Sending
rescore_refusals W t c z s = refuse 8 (FitTable W t → ⊥) (refuse 9 (HasRow t c → ⊥) (refuse 10 (KeepsScore z s → ⊥) accept))

abbrev pub HasTree : Table → Type 0
HasTree t = (i : ℕ) × (i < t.rows) × ((row_at t i).cluster ≡ leaf_set t) × ((result_at t i).count ≢ 0)

pub record MarksTree (W : Width) (t : Table) : Type 0 where
  pub scored : (i : ℕ) → Mem i (marked_rows t) → T (is_scored (row_at t i))
  pub weighs : total (map (λ (i : ℕ). (row_at t i).weight) (marked_rows t)) ≡ (result_at t (leaf_row t)).best
  pub tree : T (is_tree W.taxa t.degree (leaf_set t) (members_of t))

pub record MayBeDrawn (W : Width) (t : Table) : Type 0 where
  pub fit : FitTable W t
  pub has_tree_lem : HasTree t
  pub is_tree_lem : MarksTree W t

abbrev pub draw_refusals : Width → Table → Sending → Sending
draw_refusals W t rest = refuse 8 (FitTable W t → ⊥) (refuse 7 (HasTree t → ⊥) (refuse 8 (MarksTree W t → ⊥) rest))
