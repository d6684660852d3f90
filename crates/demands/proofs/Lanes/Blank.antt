-- WHAT A BLANK LANE DOES: a record without a score changes no answer, and what a rescoring does to the leaf set.
--     blank_lanes     the record of `specs/Demands.antt`
-- Assumes nothing.
use mathlib.Core.Path.{refl}
use mathlib.Core.List.{List, [], Memᴰ as Mem}
use Prim.Native.Nat.{ℕ, ◌<◌}
use native.Mathlib.Omega.{arith}
use lib.Dec.{T}
use Rattle.laws.specs.Limits.{narrow, is_degree}
use Rattle.laws.specs.Row.{Row, is_scored}
use Rattle.laws.proofs.Width.{narrow_facts}
use Rattle.trees.proofs.Formula.Rows.{leaves_iff}
use Rattle.lists.specs.Records.{rows_of}
use Rattle.lists.specs.ListFrom.{without_unscored}
use Rattle.lists.proofs.Laws.Without.{without_bytes, without_records, without_accepted, without_rows}
use Rattle.kept.specs.View.{row_at}
use Rattle.table.specs.Changes.{AcceptedBytes}
use Rattle.report.specs.Words.{refused_line}
use Rattle.demands.specs.Sending.{sent_back}
use Rattle.demands.specs.Lanes.{table_for, SameScored, SameAnswers}
use Rattle.demands.specs.Demands.{RowsTell, LineIs, BlankLanes}
use Rattle.demands.proofs.Demand2.{demand2}
use Rattle.demands.proofs.Lanes.Printed.{same_answers}
use Rattle.demands.proofs.Lanes.Rescored.{none-scored, no_tree, rescored}

module _ (l : List ℕ) (a : AcceptedBytes narrow l) where
  -- the scored records of a list are those that are left
  left-scored : SameScored narrow l (without_unscored narrow l)
  left-scored r s =
      let q = without_rows narrow narrow_facts l a.byte a.accepted r in (λ m. q.1 (m, s), λ m. (q.0 m).0)

  left-accepted : (r : Row) → Mem r (rows_of narrow l) → T (is_scored r) → AcceptedBytes narrow (without_unscored narrow l)
  left-accepted r m s = record {
    byte = without_bytes narrow narrow_facts l a.byte a.accepted;
    accepted = without_accepted narrow narrow_facts l a.byte a.accepted r m s;
  }

  left-same : (d : ℕ) → T (is_degree d) → (r : Row) → Mem r (rows_of narrow l) → T (is_scored r) → SameAnswers d l (without_unscored narrow l)
  left-same d q r m s =
      same_answers (record { facts = narrow_facts; degree = q; one = a; other = left-accepted r m s; same = left-scored })

-- where no record is scored no row is, and the leaf set has none
no_line : (l : List ℕ) (d : ℕ) → AcceptedBytes narrow l → T (is_degree d) → ((r : Row) → Mem r (rows_of narrow l) → T (is_scored r) → ⊥)
    → (room : List ℕ) → LineIs d l (refused_line d (sent_back 7 0)) room
no_line l d a q none =
    let past = (none-scored (table_for narrow d l) tell.fit unscored).1 in
    (demand2.prints l d a q).no_tree (tell.no_leaf (λ h. omega (arith, h, past)))
  where
    tell : RowsTell narrow d l (table_for narrow d l)
    tell = demand2.rows_tell l d [] a q

    unscored : (i : ℕ) → i < (table_for narrow d l).rows → T (is_scored (row_at (table_for narrow d l) i)) → ⊥
    unscored i h s = let r = row_at (table_for narrow d l) i in none r ((tell.rows r).0 (i, h, refl)) s

pub blank_lanes : BlankLanes
blank_lanes = record {
  leaf_set_lem = λ l. leaves_iff (rows_of narrow l);
  records = λ l a. without_records narrow narrow_facts l a.byte a.accepted;
  left = λ l a r. without_rows narrow narrow_facts l a.byte a.accepted r;
  accepted = left-accepted;
  same = λ l d a q. left-same l a d q;
  any_two = λ l m d a b q k. same_answers (record { facts = narrow_facts; degree = q; one = a; other = b; same = k });
  none-scored = none-scored;
  no_tree = no_tree;
  no_line = no_line;
  rescored = rescored;
  changed = λ l d xs a q. (demand2.rows_tell l d xs a q).leaf_set_lem;
}
