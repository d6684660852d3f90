-- The reasons of each operation are the refusals that `specs/Refusals.antt` has for it, and none of them applies where a success asks.
--     says_reading, reading_none     one record
--     says_writing, writing_none     one record into a room
--     says_listing, says_building, building_none     a list
--     says_importing, importing_none     a gel sheet
--     fit_iff     a table is fit
--     says_rescoring, rescoring-none     a rescoring
--     says_drawing, drawing_none     what is drawn of a table
-- Assumes nothing.
use mathlib.Core.Path.{◌≡◌, refl, sym, ◌∙◌, subst}
use mathlib.Core.Logic.{◌↔◌}
use mathlib.Core.Bool.{Bool, false, not, ◌&&◌}
use mathlib.Core.List.{List, ◌++◌}
use Prim.Native.Nat.{ℕ, ◌%◌, ◌≤◌, ◌<◌}
use native.Mathlib.Nat.{le_trans}
use lib.Dec.{T, eqb, ltb, eqb→eq, ltb→lt}
use lib.IntN.{ℤ}
use lib.ListN.{length, get_or}
use Rattle.laws.specs.Limits.{Width, narrow, row_cap, is_degree}
use Rattle.laws.specs.Lists.{elem}
use Rattle.laws.specs.Row.{is_scored}
use Rattle.laws.specs.Widths.{WidthFacts}
use Rattle.laws.proofs.Down.{elem_down_iff}
use Rattle.laws.proofs.Keep.{every→, →every}
use Rattle.laws.proofs.Tests.{T_and, and_T, true_T, eq→eqb}
use Rattle.trees.specs.Tree.{is_tree}
use Rattle.answers.specs.declared.refusal.Refusal.TheVariants.{NoBytes, WrongLength, TooLong, DegreeOut, BadRecord, Repeated}
use Rattle.answers.specs.declared.refusal.Refusal.TheVariants.{NoTree, Unfit, NoRow, BadScore, BadSheet, ManyClusters}
use Rattle.answers.specs.Reasons.{Reason, NoneApplies}
use Rattle.cluster.specs.declared.record.Record.{Record}
use Rattle.cluster.specs.Record.{record_bytes, row_of, has_spare}
use Rattle.cluster.specs.Rule.{broken_rule, is_kept, is_score, KeepsScore}
use Rattle.cluster.specs.Reading.{rule_of, KeepsBytes, read_reasons}
use Rattle.cluster.specs.Writing.{write_reasons}
use Rattle.cluster.proofs.Theorems.{kept_iff, score_iff}
use Rattle.lists.specs.Accepted.{Accepted}
use Rattle.lists.specs.Records.{records_in, first_bad, first_repeat}
use Rattle.lists.specs.Listing.{list_reasons}
use Rattle.lists.proofs.Laws.Reasons.{empty_iff, long_iff, cut_iff, bad_iff, repeated_iff}
use Rattle.lists.proofs.Theorems.{accepted_iff}
use Rattle.gel.specs.Lines.{first_fault, is_bad_sheet}
use Rattle.gel.specs.Columns.{sheet_rows, sheet_bytes}
use Rattle.gel.specs.Import.{import_reasons}
use Rattle.gel.proofs.Theorems.{wrong_iff, many_iff, taken_iff}
use Rattle.kept.specs.declared.table.Table.{Table}
use Rattle.kept.specs.View.{row_at}
use Rattle.kept.specs.Fit.{is_fit}
use Rattle.kept.specs.Facts.{FitTable}
use Rattle.kept.specs.Rows.{shown_rows, leaf_set, has_row}
use Rattle.kept.proofs.Laws.Clusters.{clusters_are, rises_once}
use Rattle.kept.proofs.Laws.Fit.{is_fit→, →is_fit}
use Rattle.kept.proofs.Laws.Rows.{place_of_at, has_row_is}
use Rattle.members.specs.Marked.{is_same, weight_to}
use Rattle.members.specs.Draw.{leaf_row, has_tree, leaf_marks, marked_rows, members_of, are_scored, weighs_best, is_drawable, draw_reasons}
use Rattle.members.proofs.Laws.Draw.{has_tree→, has_tree-count, is_same_refl, is_same→}
use Rattle.table.specs.Build.{build_reasons}
use Rattle.table.specs.Rescore.{rescore_reasons}
use Rattle.demands.specs.Sending as words
use Rattle.demands.specs.Sending.{Sending}
use Rattle.demands.specs.Refusals.{KeepsRecord, TakenSheet, HasRow, HasTree, MarksTree, MayBeDrawn}
use Rattle.demands.specs.Refusals.{read_refusals, list_refusals, build_refusals, sheet_refusals, rescore_refusals, draw_refusals}
use Rattle.demands.proofs.Answered.{Says, says_none, says_when, says_at, says_unless, says_room, passes_iff}

-- ---- records

module _ (l : List ℕ) where
  length_iff : T (eqb (length l) record_bytes) ↔ (length l ≡ record_bytes)
  length_iff = (eqb→eq (length l) record_bytes, eq→eqb (length l) record_bytes)

  bytes_iff : T (is_kept (rule_of narrow l)) ↔ KeepsBytes narrow l
  bytes_iff = let r = row_of narrow l in kept_iff r.cluster r.weight r.state (has_spare narrow l)

  pub says_reading : Says (read_reasons l) (read_refusals l)
  says_reading =
      says_unless (eqb (length l) record_bytes) length_iff WrongLength refl
      (λ _. says_unless (is_kept (rule_of narrow l)) bytes_iff (BadRecord 0) refl (λ _. says_none))

  pub reading_none : NoneApplies (read_reasons l) ↔ ((length l ≡ record_bytes) × KeepsBytes narrow l)
  reading_none =
      let whole = passes_iff (eqb (length l) record_bytes) length_iff in
      let kept = passes_iff (is_kept (rule_of narrow l)) bytes_iff in
      (λ k. (whole.0 k.0, kept.0 k.1.0), λ h. (whole.1 h.0, (kept.1 h.1, tt)))

module _ (r : Record) where
  abbrev keeps : Bool
  keeps = is_kept (broken_rule r.cluster r.weight r.state false)

  record_iff : T keeps ↔ KeepsRecord r
  record_iff = kept_iff r.cluster r.weight r.state false

  pub says_writing : {rs : List Reason} {rest : Sending} → Says rs rest
      → Says (write_reasons r ++ rs) (words.refuse 5 (KeepsRecord r → ⊥) rest)
  says_writing says = says_unless keeps record_iff (BadRecord 0) refl (λ _. says)

  pub writing_none : NoneApplies (write_reasons r) ↔ KeepsRecord r
  writing_none = let kept = passes_iff keeps record_iff in (λ k. kept.0 k.0, λ h. (kept.1 h, tt))

-- ---- lists

module _ (W : Width) (l : List ℕ) where
  pub says_listing : Says (list_reasons W l) (list_refusals W l)
  says_listing =
      says_when (eqb (length l) 0) NoBytes refl (empty_iff W l)
      (λ _. says_when (ltb W.list_bytes (length l)) TooLong refl (long_iff W l)
      (λ _. says_when (not (eqb (length l % W.record_bytes) 0)) WrongLength refl (cut_iff W l)
      (λ _. says_at (ltb (first_bad W l) (records_in W l)) BadRecord (first_bad W l) (λ p. refl) (bad_iff W l)
      (says_at (ltb (first_repeat W l) (records_in W l)) Repeated (first_repeat W l) (λ p. refl) (repeated_iff W l) says_none))))

  module _ (d : ℕ) where
    pub says_building : Says (build_reasons W l d) (build_refusals W l d)
    says_building = says_unless (is_degree d) (λ h. h, λ h. h) DegreeOut refl (λ _. says_listing)

    pub building_none : NoneApplies (build_reasons W l d) ↔ (T (is_degree d) × Accepted W l)
    building_none =
        let degree = passes_iff (is_degree d) (λ h. h, λ h. h) in
        (λ k. (degree.0 k.0, (accepted_iff W l).0 k.1), λ h. (degree.1 h.0, (accepted_iff W l).1 h.1))

-- ---- gel sheets

module _ (s room : List ℕ) where
  pub says_importing : Says (import_reasons s room) (sheet_refusals s room)
  says_importing =
      says_at (is_bad_sheet s) BadSheet (first_fault s) (λ p. refl) (wrong_iff s)
      (says_when (ltb narrow.rows (length (sheet_rows s))) ManyClusters refl (many_iff s) (λ _. says_room (sheet_bytes s) room))

  pub importing_none : NoneApplies (import_reasons s room) ↔ TakenSheet s room
  importing_none =
      let iff = taken_iff s room in (
        λ k. let h = iff.0 k in record { right = h.0; few = h.1; fits = h.2 },
        λ t. iff.1 (t.right, t.few, t.fits),
      )

-- ---- rows of a table

pub fit_iff : (W : Width) → WidthFacts W → (t : Table) → T (is_fit W t) ↔ FitTable W t
fit_iff W facts t = (is_fit→ W facts t, →is_fit W t)

module _ (t : Table) (c : ℕ) where
  row_iff : T (has_row t c) ↔ HasRow t c
  row_iff =
      let one_of_lem = elem_down_iff (λ (i : ℕ). get_or t.clusters i 0) t.rows c in (
        λ h. let q = one_of_lem.0 (subst (λ (cs : List ℕ). T (elem c cs)) (clusters_are t t.rows) h) in (q.0, q.1, sym q.2),
        λ q. subst (λ (cs : List ℕ). T (elem c cs)) (sym (clusters_are t t.rows)) (one_of_lem.1 (q.0, q.1, sym q.2)),
      )

  module _ (W : Width) (facts : WidthFacts W) (z : ℤ) (s : ℕ) where
    pub says_rescoring : Says (rescore_reasons W t c z s) (rescore_refusals W t c z s)
    says_rescoring =
        says_unless (is_fit W t) (fit_iff W facts t) Unfit refl
        (λ _. says_unless (has_row t c) row_iff NoRow refl
        (λ _. says_unless (is_score z s) (score_iff z s) BadScore refl (λ _. says_none)))

    pub rescoring-none : NoneApplies (rescore_reasons W t c z s) ↔ (FitTable W t × HasRow t c × KeepsScore z s)
    rescoring-none =
        let fit = passes_iff (is_fit W t) (fit_iff W facts t) in
        let row = passes_iff (has_row t c) row_iff in
        let score = passes_iff (is_score z s) (score_iff z s) in
        (λ k. (fit.0 k.0, row.0 k.1.0, score.0 k.1.1.0), λ h. (fit.1 h.0, (row.1 h.1, (score.1 h.2, tt))))

-- ---- what is drawn of a table

module _ (W : Width) (facts : WidthFacts W) (t : Table) where
  tree_iff : FitTable W t → T (has_tree t) ↔ HasTree t
  tree_iff fit = (to, from)
    where
      capped : t.rows ≤ row_cap
      capped = le_trans fit.bounds.capped facts.rows

      at_leaf : leaf_row t < t.rows → get_or t.clusters (leaf_row t) 0 ≡ leaf_set t
      at_leaf = place_of_at t capped (leaf_set t)

      to : T (has_tree t) → HasTree t
      to h = let q = has_tree→ t h in (leaf_row t, q.0, at_leaf q.0, q.1)

      from : HasTree t → T (has_tree t)
      from q =
          let found = (row_iff t (leaf_set t)).1 (q.0, q.1, q.2) in
          let here = ltb→lt (leaf_row t) t.rows (subst T (has_row_is t capped (leaf_set t)) found) in
          let one = rises_once t.clusters t.rows q.0 (leaf_row t) fit.rising q.1 here (q.2 ∙ sym (at_leaf here)) in
          true_T (has_tree-count t q.0 one q.1 q.3)

  marks_iff : T (is_drawable W t) ↔ MarksTree W t
  marks_iff = (to, from)
    where
      to : T (is_drawable W t) → MarksTree W t
      to h =
          let r = T_and (are_scored t && weighs_best t) (is_tree W.taxa t.degree (leaf_set t) (members_of t)) h in
          let s = T_and (are_scored t) (weighs_best t) r.0 in record {
            scored = every→ (λ (i : ℕ). is_scored (row_at t i)) (marked_rows t) s.0;
            weighs = is_same→ _ _ s.1;
            tree = r.1;
          }

      from : MarksTree W t → T (is_drawable W t)
      from m =
          let weight = weight_to t.weights (leaf_marks t) (shown_rows t) in
          let same = subst (λ (z : ℤ). T (is_same weight z)) m.weighs (is_same_refl weight) in
          and_T (are_scored t && weighs_best t) (is_tree W.taxa t.degree (leaf_set t) (members_of t))
          (and_T (are_scored t) (weighs_best t) (→every (λ (i : ℕ). is_scored (row_at t i)) (marked_rows t) m.scored) same) m.tree

  pub says_drawing : {rs : List Reason} {rest : Sending} → Says rs rest → Says (draw_reasons W t ++ rs) (draw_refusals W t rest)
  says_drawing says =
      says_unless (is_fit W t) (fit_iff W facts t) Unfit refl
      (λ fit. says_unless (has_tree t) (tree_iff fit) NoTree refl
      (λ _. says_unless (is_drawable W t) marks_iff Unfit refl (λ _. says)))

  pub drawing_none : NoneApplies (draw_reasons W t) ↔ MayBeDrawn W t
  drawing_none = (to, from)
    where
      to : NoneApplies (draw_reasons W t) → MayBeDrawn W t
      to k =
          let fit = (passes_iff (is_fit W t) (fit_iff W facts t)).0 k.0 in record {
            fit = fit;
            has_tree_lem = (passes_iff (has_tree t) (tree_iff fit)).0 k.1.0;
            is_tree_lem = (passes_iff (is_drawable W t) marks_iff).0 k.1.1.0;
          }

      from : MayBeDrawn W t → NoneApplies (draw_reasons W t)
      from h = (
        (passes_iff (is_fit W t) (fit_iff W facts t)).1 h.fit,
        ((passes_iff (has_tree t) (tree_iff h.fit)).1 h.has_tree_lem, ((passes_iff (is_drawable W t) marks_iff).1 h.is_tree_lem, tt)),
      )
