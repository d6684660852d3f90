-- What each part of the test of a case shows, in the order of `Computed.antt`.
--     none→, same→, said→, bytes→     the tests of a refusal, of lists, of a number that may be told, of bytes
--     rescored_is         a rescoring that is taken, where there is one, gives the table as computed, and it is fit
--     told→               what is drawn from a fit table is as the ending says
-- Assumes nothing.
use mathlib.Core.Path.{◌≡◌, refl, sym, ap, ap₂, ◌∙◌, subst}
use mathlib.Core.Bool.{not, ◌&&◌}
use mathlib.Core.Option.{Option, none, some}
use mathlib.Core.List.{List, [], ◌∷◌}
use Prim.Native.Nat.{ℕ, zero, suc}
use lib.Dec.{T, eqb, eqb→eq, ltb→lt, lit<, T_not}
use Rattle.laws.specs.Limits.{narrow}
use Rattle.laws.specs.Lists.{every}
use Rattle.laws.specs.Row.{Row}
use Rattle.laws.proofs.Tests.{T_and, T_true, T_false}
use Rattle.laws.proofs.Width.{narrow_facts}
use Rattle.std.specs.Prelude.{Ok}
use Rattle.answers.specs.declared.refusal.Refusal.{Refusal}
use Rattle.answers.specs.declared.refusal.Refusal.TheVariants.{NoTree}
use Rattle.cluster.specs.Bytes.{byte_values}
use Rattle.answers.specs.Outcome.{outcome_of, written}
use Rattle.answers.specs.Reasons.{first_reason}
use Rattle.answers.specs.Refusal.{number_of}
use Rattle.cluster.specs.Rule.{is_score}
use Rattle.lists.specs.Accepted.{Bytes}
use Rattle.shapes.specs.Characters.{characters}
use Rattle.kept.specs.declared.table.Table.{Table}
use Rattle.kept.specs.Fit.{is_fit}
use Rattle.kept.specs.Rows.{has_row}
use Rattle.table.proofs.Fitting.FitTables.{rescored-fit}
use Rattle.table.proofs.Changing.Rescore.{rescore_done}
use Rattle.members.specs.Marked.{is_same}
use Rattle.members.specs.Draw.{leaf_result, has_tree, members_of, is_drawable, draw_reasons}
use Rattle.members.proofs.Laws.Draw.{nothing_refused, is_same→}
use Rattle.drawing.specs.Draw.{leaf_text}
use Rattle.drawing.proofs.Laws.Draw.{tree-refused, tree-put, text-refused, text-put}
use Rattle.examples.specs.Case.{ToldTree, Ending, refused, drawn}
use Rattle.examples.specs.Told.{Said, RowTold, Refuses, Draws, Told}
use Rattle.examples.specs.Right.{rescored_by}
use Rattle.examples.proofs.Computed.{is_none, is_byte, same_numbers, is_said, takes, after, has_row_told, has_output_told, is_told}

-- ---- values

pub none→ : (x : Option Refusal) → T (is_none x) → x ≡ none
none→ none h = refl
none→ (some f) h = absurd h

pub same→ : (xs ys : List ℕ) → T (same_numbers xs ys) → xs ≡ ys
same→ [] [] h = refl
same→ [] (y ∷ ys) h = absurd h
same→ (x ∷ xs) [] h = absurd h
same→ (x ∷ xs) (y ∷ ys) h =
    let q = T_and (eqb x y) (same_numbers xs ys) h in
    ap₂ (λ (a : ℕ) (l : List ℕ). a ∷ l) (eqb→eq x y q.0) (same→ xs ys q.1)

pub said→ : (x : Option ℕ) (n : ℕ) → T (is_said x n) → Said x n
said→ none n h = tt
said→ (some m) n h = eqb→eq n m h

pub bytes→ : (l : List ℕ) → T (every is_byte l) → Bytes l
bytes→ [] h i = lit< tt
bytes→ (x ∷ xs) h zero = ltb→lt x byte_values (T_and (is_byte x) (every is_byte xs) h).0
bytes→ (x ∷ xs) h (suc i) = bytes→ xs (T_and (is_byte x) (every is_byte xs) h).1 i

-- ---- the rescoring

pub rescored_is : (x : Option Row) (t : Table) → T (is_fit narrow t) → T (takes x t)
    → (rescored_by x t ≡ outcome_of (Ok 0) (after x t)) × T (is_fit narrow (after x t))
rescored_is none t fit h = (refl, fit)
rescored_is (some r) t fit h =
    let q = T_and (has_row t r.cluster) (is_score r.weight r.state) h in (
      sym (rescore_done narrow t r.cluster r.weight r.state (T_true (is_fit narrow t) fit) (T_true (has_row t r.cluster) q.0)
          (T_true (is_score r.weight r.state) q.1) refl),
      rescored-fit narrow narrow_facts t r.cluster r.weight r.state fit q.1,
    )

-- ---- what is drawn

module _ (u : Table) (fit : T (is_fit narrow u)) where
  refuses→ : (T (has_tree u) → ⊥) → Refuses u (number_of NoTree)
  refuses→ h =
      let e : first_reason (draw_reasons narrow u) ≡ some NoTree = rw (T_true (is_fit narrow u) fit, T_false (has_tree u) h) in
      record { tree = λ l. sym (tree-refused narrow u l e); text = λ l. sym (text-refused narrow u l e) }

  row_told→ : (x : ToldTree) → T (has_row_told u x) → RowTold u x
  row_told→ x h =
      let r = leaf_result u in
      let counts = eqb r.count x.count && eqb r.mark 0 in
      let a = T_and (counts && is_same r.best x.weight) (is_said x.row_length r.length) h in
      let b = T_and counts (is_same r.best x.weight) a.0 in
      let c = T_and (eqb r.count x.count) (eqb r.mark 0) b.0 in
      record {
        count = eqb→eq r.count x.count c.0;
        mark = eqb→eq r.mark 0 c.1;
        weight = is_same→ r.best x.weight b.1;
        row_length = said→ x.row_length r.length a.1;
      }

  draws→ : (x : ToldTree) → T (has_tree u && is_drawable narrow u) → T (has_row_told u x) → T (has_output_told u x) → Draws u x
  draws→ x found row output =
      let told = characters x.text in
      let q = T_and (has_tree u) (is_drawable narrow u) found in
      let e = nothing_refused narrow u (T_true _ fit) (T_true _ q.0) (T_true _ q.1) in
      let o = T_and (same_numbers (members_of u) x.members) (same_numbers (leaf_text u) told) output in
      let members = same→ (members_of u) x.members o.0 in
      let text = same→ (leaf_text u) told o.1 in
      record {
        row = row_told→ x row;
        tree = λ l. sym (tree-put narrow u l e) ∙ ap (λ (out : List ℕ). written [] out l) members;
        text = λ l. sym (text-put narrow u l e) ∙ ap (λ (out : List ℕ). written [] out l) text;
      }

  pub told→ : (e : Ending) → T (is_told u e) → Told u e
  told→ (refused n) h =
      let q = T_and (eqb n (number_of NoTree)) (not (has_tree u)) h in
      subst (Refuses u) (sym (eqb→eq n (number_of NoTree) q.0)) (refuses→ (T_not (has_tree u) q.1))
  told→ (drawn x) h =
      let q = T_and (has_tree u && is_drawable narrow u) (has_row_told u x && has_output_told u x) h in
      let p = T_and (has_row_told u x) (has_output_told u x) q.1 in
      draws→ x q.0 p.0 p.1
