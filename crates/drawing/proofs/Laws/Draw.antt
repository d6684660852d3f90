-- What asking for a tree or a text gives, for each way out.
--     tree_on                   the members of a table of which a tree is drawn are a tree on the leaf set
--     leaf_row-lt               the row of the leaf set is one of those that there is room for
--     drawn_fits, drawn_row     what is drawn has its members in the array, and its row is one of those; also where nothing is drawn
--     drawn_text_row, drawn_text_fits     so for the text
--     tree-refused, tree-put    the tree: refused, and put into the room
--     text-refused, text-put    so for the text
--     drawn_text-refused, drawn_text_done     the text by value
--     text→refused, text→drawn  what its answer tells: why nothing is drawn, or `TextDrawn` of `specs/Draw.antt`
--     drawn_text-only           two outcomes that the promise of the text by value allows are equal
-- Assumes nothing.
use mathlib.Core.Path.{◌≡◌, refl, sym, ap, ap₂, ◌∙◌}
use mathlib.Core.List.{List, []}
use mathlib.Core.Option.{Option, none, some}
use Prim.Native.Nat.{ℕ, ◌≤◌, ◌<◌}
use native.Mathlib.Omega.{arith}
use lib.ListN.{length}
use Rattle.laws.specs.Limits.{Width, narrow, row_cap}
use Rattle.laws.specs.Widths.{WidthFacts}
use Rattle.laws.proofs.Tests.{true_T}
use Rattle.laws.proofs.Width.{narrow_facts}
use Rattle.std.specs.Prelude.{Result, Ok, Err}
use Rattle.answers.specs.declared.refusal.Refusal.{Refusal}
use Rattle.answers.specs.Reasons.{first_reason}
use Rattle.answers.specs.Outcome.{outcome_of, ended, written}
use Rattle.answers.proofs.Laws.Outcome.{result_only, ended-refused, ended_done, written-refused, written_passed}
use Rattle.shapes.specs.Nests.{TreeOn}
use Rattle.shapes.proofs.Theorems.{text-length}
use Rattle.texts.specs.declared.text.Text.{Text}
use Rattle.texts.specs.Text.{text_cap, holding}
use Rattle.kept.specs.declared.table.Table.{Table}
use Rattle.kept.specs.Rows.{leaf_set}
use Rattle.kept.proofs.Laws.Fit.{is_fit→}
use Rattle.members.specs.Draw.{leaf_row, members_of, marked_rows, draw_reasons, no_members, drawn_members, drawn_tree}
use Rattle.members.specs.Drawable.{Drawable}
use Rattle.members.proofs.Drawable.{drawable}
use Rattle.members.proofs.Laws.Gathered.{members-fit}
use Rattle.drawing.specs.declared.drawing.DrawnText.{DrawnText}
use Rattle.drawing.specs.Draw.{draw_tree, leaf_text, TextAt, no_text, text_at, drawn_text, drawn_text_of, draw_text, TextDrawn}
use Rattle.drawing.proofs.Tested.{tested_tree}

-- ---- a table of which a tree is drawn

module _ (W : Width) (facts : WidthFacts W) {t : Table} (d : Drawable W t) where
  pub tree_on : TreeOn (members_of t) (leaf_set t)
  tree_on = tested_tree W.taxa t.degree (leaf_set t) (members_of t) d.once d.sound facts.taxa (true_T d.tree)

  pub leaf_row-lt : leaf_row t < row_cap
  leaf_row-lt = omega (arith, d.row, (is_fit→ W facts t d.fit).bounds.capped, facts.rows)

-- ---- what is handed on holds

pub drawn_fits : (t : Table) → (drawn_tree narrow t).given.size ≤ length (drawn_tree narrow t).given.clusters
unfolding drawn_tree
drawn_fits t = go (first_reason (draw_reasons narrow t))
  where
    go : (o : Option Refusal) → let m = (ended o no_members 0 (drawn_members t)).given in m.size ≤ length m.clusters
    go none = members-fit t.clusters (marked_rows t)
    go (some f) = omega arith

pub drawn_row : (t : Table) → (drawn_tree narrow t).given.row < row_cap
unfolding drawn_tree
drawn_row t = go (first_reason (draw_reasons narrow t)) refl
  where
    go : (o : Option Refusal) → first_reason (draw_reasons narrow t) ≡ o → (ended o no_members 0 (drawn_members t)).given.row < row_cap
    go none e = leaf_row-lt narrow narrow_facts (drawable narrow narrow_facts t e)
    go (some f) e = omega arith

pub drawn_text_row : (t : Table) → (drawn_text narrow t).given.row < row_cap
unfolding drawn_text
drawn_text_row t = go (first_reason (draw_reasons narrow t)) refl
  where
    go : (o : Option Refusal) → first_reason (draw_reasons narrow t) ≡ o
        → (ended o no_text (length (leaf_text t)) (text_at t)).given.row < row_cap
    go none e = leaf_row-lt narrow narrow_facts (drawable narrow narrow_facts t e)
    go (some f) e = omega arith

pub drawn_text_fits : (t : Table) → (drawn_text narrow t).given.text.size ≤ text_cap
unfolding drawn_text
drawn_text_fits t = go (first_reason (draw_reasons narrow t)) refl
  where
    go : (o : Option Refusal) → first_reason (draw_reasons narrow t) ≡ o
        → (ended o no_text (length (leaf_text t)) (text_at t)).given.text.size ≤ text_cap
    go none e =
        let d = drawable narrow narrow_facts t e in
        let tree = tree_on narrow narrow_facts d in
        omega (arith, text-length (members_of t) (leaf_set t) tree narrow narrow_facts (d.sound (leaf_set t) tree.top).1)
    go (some f) e = omega arith

-- ---- into a room

module _ (W : Width) (t : Table) (l : List ℕ) where
  pub tree-refused : {f : Refusal} → first_reason (draw_reasons W t) ≡ some f → outcome_of (Err f) l ≡ draw_tree W t l
  unfolding draw_tree
  tree-refused {f} e = sym (written-refused (draw_reasons W t) (members_of t) l f e)

  pub tree-put : first_reason (draw_reasons W t) ≡ none → written [] (members_of t) l ≡ draw_tree W t l
  unfolding draw_tree
  tree-put e = sym (written_passed (draw_reasons W t) (members_of t) l e)

  pub text-refused : {f : Refusal} → first_reason (draw_reasons W t) ≡ some f → outcome_of (Err f) l ≡ draw_text W t l
  unfolding draw_text
  text-refused {f} e = sym (written-refused (draw_reasons W t) (leaf_text t) l f e)

  pub text-put : first_reason (draw_reasons W t) ≡ none → written [] (leaf_text t) l ≡ draw_text W t l
  unfolding draw_text
  text-put e = sym (written_passed (draw_reasons W t) (leaf_text t) l e)

-- ---- by value

module _ (W : Width) (t : Table) where
  drawn_by : {o : Option Refusal} → first_reason (draw_reasons W t) ≡ o → ended o no_text (length (leaf_text t)) (text_at t) ≡ drawn_text W t
  unfolding drawn_text
  drawn_by e = ap (λ (o : Option Refusal). ended o no_text (length (leaf_text t)) (text_at t)) (sym e)

  pub drawn_text-refused : {f : Refusal} → first_reason (draw_reasons W t) ≡ some f → outcome_of (Err f) no_text ≡ drawn_text W t
  drawn_text-refused e = drawn_by e

  pub drawn_text_done : {n : ℕ} {x : Text} → first_reason (draw_reasons W t) ≡ none → n ≡ leaf_row t → x ≡ holding (leaf_text t)
      → outcome_of (Ok x.size) (record { row = n; text = x }) ≡ drawn_text W t
  drawn_text_done e p q =
      ap₂ (λ (n : ℕ) (x : Text). outcome_of (Ok x.size) (record { row = n; text = x })) p q ∙ drawn_by e

  module _ {r : Result DrawnText Refusal} (p : drawn_text_of r ≡ drawn_text W t) where
    ended_is : {s : Result DrawnText Refusal} → r ≡ s
        → ended (first_reason (draw_reasons W t)) no_text (length (leaf_text t)) (text_at t) ≡ drawn_text_of s
    ended_is h = drawn_by refl ∙ sym p ∙ ap drawn_text_of h

    pub text→refused : {f : Refusal} → r ≡ Err f → first_reason (draw_reasons W t) ≡ some f
    text→refused {f} h = (ended-refused (first_reason (draw_reasons W t)) no_text (length (leaf_text t)) (text_at t) f _ (ended_is h)).0

    pub text→drawn : WidthFacts W → {d : DrawnText} → r ≡ Ok d → TextDrawn W t d
    text→drawn facts {d} h =
        let q = ended_done (first_reason (draw_reasons W t)) no_text (length (leaf_text t)) (text_at t) d.text.size _ (ended_is h) in record {
          unrefused = q.0;
          table = drawable W facts t q.0;
          row = ap (λ (x : TextAt). x.row) q.1;
          text = ap (λ (x : TextAt). x.text) q.1;
        }

  pub drawn_text-only : (x y : Result DrawnText Refusal) → drawn_text_of x ≡ drawn_text W t → drawn_text_of y ≡ drawn_text W t → x ≡ y
  drawn_text-only =
      result_only (λ (r : DrawnText). r.text.size) (λ (r : DrawnText). record { row = r.row; text = r.text }) no_text
      (λ x y _ e. ap (λ (z : TextAt). record { row = z.row; text = z.text }) e)
