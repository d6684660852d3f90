-- What is known where something is drawn of a table, for the crates that draw it: `specs/Drawable.antt`.
--     drawn-only          one outcome of `drawn_tree`: a refusal, or the row, every number of the array, and how many
--     drawn-refused       what `drawn_tree` refuses is the first reason that applies
--     drawable            where no reason applies, what `Drawable` says of the table
--     drawn_done          where `drawn_tree` succeeds, what `Success` says of its value
-- Assumes nothing.
use mathlib.Core.Path.{◌≡◌, refl, sym, ap, ap₂, ◌∙◌}
use mathlib.Core.Bool.{◌&&◌}
use mathlib.Core.Option.{none, some}
use native.Mathlib.Nat.{le_trans}
use lib.ListN.{take}
use Rattle.laws.specs.Limits.{Width}
use Rattle.laws.specs.Widths.{WidthFacts}
use Rattle.laws.proofs.Tests.{T_and, T_true, T-of-not}
use Rattle.std.specs.Prelude.{Result, Ok, Err}
use Rattle.answers.specs.declared.refusal.Refusal.{Refusal}
use Rattle.answers.specs.Outcome.{Outcome, ended}
use Rattle.answers.specs.Reasons.{first_reason}
use Rattle.answers.proofs.Laws.Reasons.{none_iff}
use Rattle.answers.proofs.Laws.Outcome.{result_only, ended-refused, ended_done}
use Rattle.kept.specs.declared.table.Table.{Table}
use Rattle.kept.specs.Fit.{is_fit}
use Rattle.kept.specs.Rows.{leaf_set}
use Rattle.kept.proofs.Laws.Fit.{is_fit→}
use Rattle.kept.proofs.Laws.Rows.{place_of_at}
use Rattle.members.specs.declared.draw.Drawn.{Drawn}
use Rattle.members.specs.Draw.{has_tree, marked_rows, are_scored, weighs_best, is_drawable, draw_reasons}
use Rattle.members.specs.Draw.{DrawnMembers, no_members, drawn_members, drawn_tree, drawn_of}
use Rattle.members.specs.Drawable.{Drawable, Success}
use Rattle.members.proofs.Laws.Gathered.{members-length, members-front, members-fit}
use Rattle.members.proofs.Laws.Draw.{has_tree→, is_same→}
use Rattle.members.proofs.Laws.Members.{members_falling, members-once, members-sound, members-listed}

-- ---- a table of which something is drawn

module _ (W : Width) (facts : WidthFacts W) (t : Table) where
  pub drawable : first_reason (draw_reasons W t) ≡ none → Drawable W t
  drawable e =
      let q = (none_iff (draw_reasons W t)).0 e in
      let fit = T-of-not (is_fit W t) q.0 in
      let tree = has_tree→ t (T-of-not (has_tree t) q.1.0) in
      let r = T_and (are_scored t && weighs_best t) _ (T-of-not (is_drawable W t) q.1.1.0) in
      let s = T_and (are_scored t) (weighs_best t) r.0 in record {
        fit = fit;
        row = tree.0;
        top = place_of_at t (le_trans (is_fit→ W facts t fit).bounds.capped facts.rows) (leaf_set t) tree.0;
        counted = tree.1;
        tree = T_true _ r.1;
        weighs = is_same→ _ _ s.1;
        listed = members-listed W facts t fit s.0;
        falls = members_falling W facts t fit;
        once = members-once W facts t fit;
        sound = members-sound W facts t fit;
      }

-- ---- what `drawn_tree` hands back

module _ (W : Width) (t : Table) where
  abbrev ends : Outcome DrawnMembers
  ends = ended (first_reason (draw_reasons W t)) no_members 0 (drawn_members t)

  drawn_is : drawn_tree W t ≡ ends
  unfolding drawn_tree
  drawn_is = refl

  abbrev given : Drawn → DrawnMembers
  given r = record { row = r.row; clusters = r.clusters; size = r.size }

  answered : {r s : Result Drawn Refusal} → drawn_of r ≡ drawn_tree W t → r ≡ s → ends ≡ drawn_of s
  answered p e = sym drawn_is ∙ sym p ∙ ap drawn_of e

  pub drawn-only : (x y : Result Drawn Refusal) → drawn_of x ≡ drawn_tree W t → drawn_of y ≡ drawn_tree W t → x ≡ y
  drawn-only =
      result_only (λ (r : Drawn). 0) given no_members
      (λ x y _ e. ap (λ (m : DrawnMembers). record { row = m.row; clusters = m.clusters; size = m.size }) e)

  pub drawn-refused : {r : Result Drawn Refusal} {f : Refusal} → drawn_of r ≡ drawn_tree W t → r ≡ Err f
      → first_reason (draw_reasons W t) ≡ some f
  drawn-refused {r} {f} p h =
      (ended-refused (first_reason (draw_reasons W t)) no_members 0 (drawn_members t) f no_members (answered p h)).0

  pub drawn_done : WidthFacts W → {r : Result Drawn Refusal} {d : Drawn} → drawn_of r ≡ drawn_tree W t → r ≡ Ok d → Success W t d
  drawn_done facts {r} {d} p h =
      let q = ended_done (first_reason (draw_reasons W t)) no_members 0 (drawn_members t) 0 (given d) (answered p h) in
      let size = ap (λ (m : DrawnMembers). m.size) q.1 in
      let clusters = ap (λ (m : DrawnMembers). m.clusters) q.1 in record {
        unrefused = q.0;
        table = drawable W facts t q.0;
        row = ap (λ (m : DrawnMembers). m.row) q.1;
        size = size ∙ sym (members-length t.clusters (marked_rows t));
        front = ap₂ take size clusters ∙ members-front t.clusters (marked_rows t);
        fits = rw (size, clusters) (members-fit t.clusters (marked_rows t));
      }
