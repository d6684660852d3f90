-- The line of a table, of a list, and what asking for it gives: for each way out of the code, and how long a line can be.
--     table-refused, table-drawn         the line of a table, refused or drawn
--     built-refused, built_done          the line of a list, by what its build sends back
--     line-length-le                     the line of a list has no more than `line_cap` bytes
--     line_held                          so a text has room for it
--     line-put                           asking for a line is putting it into the room
--     line-told                          no more bytes are told than there is room
-- Assumes nothing.
use mathlib.Core.Path.{◌≡◌, refl, sym, ap, ◌∙◌}
use mathlib.Core.List.{List, []}
use mathlib.Core.Option.{Option, none, some}
use Prim.Native.Nat.{ℕ, ◌^◌, ◌≤◌, ◌<◌}
use native.Mathlib.Omega.{arith}
use lib.Count.{ones-le}
use lib.Dec.{T, ltb, ltb→lt, nltb→le, not_T}
use lib.IntN.{pos, nat_abs}
use lib.ListN.{length, get_or}
use mir.Facts.{to_z-of_z}
use mir.Syntax.{w64}
use mir.Val.{SFits, to_z, of_z}
use Rattle.laws.specs.Limits.{narrow, degree_high, is_degree}
use Rattle.laws.proofs.Integers.{mag_le_abs}
use Rattle.laws.proofs.Tests.{T-of-not}
use Rattle.laws.proofs.Width.{narrow_facts, degree_range}
use Rattle.answers.specs.Refusal.{Answer}
use Rattle.std.specs.Prelude.{Ok, Err}
use Rattle.answers.specs.declared.refusal.Refusal.{Refusal}
use Rattle.answers.specs.Refusal.{position_of, sent_of}
use Rattle.answers.specs.Reasons.{first_reason}
use Rattle.answers.specs.Outcome.{Outcome, outcome_of, ended, written}
use Rattle.answers.proofs.Laws.Outcome.{ended-refused, ended_done, written-told}
use Rattle.answers.proofs.Laws.Reasons.{Each, first-each, none_iff}
use Rattle.lists.specs.Records.{records_in, rows_of, first_bad, first_repeat}
use Rattle.trees.specs.Result.{Result}
use Rattle.trees.specs.Built.{built_table}
use Rattle.shapes.proofs.Theorems.{text-length}
use Rattle.texts.specs.declared.text.Text.{Text}
use Rattle.texts.specs.Text.{holding, with_bytes}
use Rattle.texts.proofs.Laws.{text_held}
use Rattle.kept.specs.declared.table.Table.{Table}
use Rattle.kept.specs.View.{row_at, result_at, clusters_in, table_of, zero_table}
use Rattle.kept.specs.Rows.{leaf_set}
use Rattle.kept.specs.Facts.{FitRow}
use Rattle.kept.proofs.Laws.Fit.{is_fit→}
use Rattle.table.specs.Build.{build_reasons, build_table}
use Rattle.table.proofs.Laws.Build.{build_of}
use Rattle.members.specs.Draw.{leaf_row, members_of, draw_reasons}
use Rattle.members.specs.Drawable.{Drawable}
use Rattle.members.proofs.Drawable.{drawable}
use Rattle.drawing.specs.Draw.{leaf_text}
use Rattle.drawing.proofs.Laws.Draw.{tree_on}
use Rattle.report.specs.Words.{refused_line, tree_line}
use Rattle.report.specs.Line.{line_cap, line_for, table_line, line_of, line_into}
use Rattle.report.proofs.Laws.Words.{best_max, tree_line-length-le, refused_line-length-le}

-- ---- the row of the leaf set, where a tree is drawn

module _ {t : Table} (d : Drawable narrow t) where
  abbrev leaf : Result
  leaf = result_at t (leaf_row t)

  leaf_row_lem : FitRow narrow (clusters_in t) (row_at t (leaf_row t)) leaf
  leaf_row_lem = (is_fit→ narrow narrow_facts t d.fit).fit (leaf_row t) d.row

  tree-best-le : nat_abs leaf.best ≤ best_max
  tree-best-le =
      let taxa = ones-le narrow.taxa (row_at t (leaf_row t)).cluster leaf_row_lem.width in
      omega (arith, leaf_row_lem.matched.light d.counted, taxa)

  tree-best-fits : SFits w64 leaf.best
  tree-best-fits = record { sfits = omega (arith, mag_le_abs leaf.best, tree-best-le) }

  text-short : length (leaf_text t) ≤ narrow.text_bytes
  text-short =
      let tree = tree_on narrow narrow_facts d in
      text-length (members_of t) (leaf_set t) tree narrow narrow_facts (d.sound (leaf_set t) tree.top).1

-- ---- the line of a table

-- a position is a number of 64 bits
abbrev Placed : Refusal → Type 0
Placed f = position_of f < 2 ^ 64

draw_placed : (t : Table) → Each Placed (draw_reasons narrow t)
draw_placed t = (λ _. omega arith, λ _. (λ _. omega arith, λ _. (λ _. omega arith, λ _. tt)))

module _ (d : ℕ) (t : Table) where
  abbrev drawn_line : List ℕ
  drawn_line = let v = result_at t (leaf_row t) in tree_line d v.count v.mark v.best (leaf_text t)

  pub table-refused : {f : Refusal} → first_reason (draw_reasons narrow t) ≡ some f → refused_line d (sent_of (Err f)) ≡ table_line d t
  table-refused e = ap (λ (o : Option Refusal). line_for d o drawn_line) (sym e)

  -- as the code reads the row
  pub table-drawn : {i : ℕ} {text : List ℕ} → first_reason (draw_reasons narrow t) ≡ none → i ≡ leaf_row t → text ≡ leaf_text t
      → tree_line d (get_or t.counts i 0) (get_or t.marks i 0) (to_z w64 (of_z w64 (get_or t.bests i (pos 0)))) text ≡ table_line d t
  table-drawn e r f =
      rw (r, f, to_z-of_z (tree-best-fits (drawable narrow narrow_facts t e))) (ap (λ (o : Option Refusal). line_for d o drawn_line) (sym e))

  table_line-length-le : d < 10 → length (table_line d t) ≤ line_cap
  table_line-length-le h = go (first_reason (draw_reasons narrow t)) refl
    where
      go : (o : Option Refusal) → first_reason (draw_reasons narrow t) ≡ o → length (line_for d o drawn_line) ≤ line_cap
      go (some f) e =
          omega (arith, refused_line-length-le d f (omega arith) (first-each Placed (draw_reasons narrow t) (draw_placed t) f e))
      go none e =
          let k = drawable narrow narrow_facts t e in
          let v = result_at t (leaf_row t) in
          let line = tree_line-length-le d v.count v.mark v.best (leaf_text t) h (leaf_row_lem k).ranged.counted (tree-best-le k) in
          omega (arith, line, text-short k)

-- ---- the line of a list, by what its build sends back

module _ (l : List ℕ) (d : ℕ) where
  abbrev built_line : List ℕ
  built_line = table_line d (build_table narrow l d).given

  line_by : {o : Option Refusal} → first_reason (build_reasons narrow l d) ≡ o → line_for d o built_line ≡ line_of l d
  unfolding line_of
  line_by e = ap (λ (o : Option Refusal). line_for d o built_line) (sym e)

  abbrev table : Table
  table = table_of d (built_table narrow d (rows_of narrow l))

  module _ {a : Answer} {t : Table} (p : outcome_of a t ≡ build_table narrow l d) where
    ends : {b : Answer} → a ≡ b → ended (first_reason (build_reasons narrow l d)) zero_table 0 table ≡ outcome_of b t
    ends e = sym (build_of narrow l d refl) ∙ sym p ∙ ap (λ (b : Answer). outcome_of b t) e

    pub built-refused : {f : Refusal} → a ≡ Err f → refused_line d (sent_of (Err f)) ≡ line_of l d
    built-refused {f} e = line_by (ended-refused (first_reason (build_reasons narrow l d)) zero_table 0 table f t (ends e)).0

    pub built_done : {n : ℕ} → a ≡ Ok n → table_line d t ≡ line_of l d
    built_done {n} e =
        ap (table_line d) (ap (λ (o : Outcome Table). o.given) p)
        ∙ line_by (ended_done (first_reason (build_reasons narrow l d)) zero_table 0 table n t (ends e)).0

-- ---- how long it can be

build_placed : (l : List ℕ) (d : ℕ) → Each Placed (build_reasons narrow l d)
build_placed l d = (
  λ _. omega arith,
  λ _. (
    λ _. omega arith,
    λ _. (
      λ _. omega arith,
      λ n. (
        λ _. omega arith,
        λ _. (
          (λ h. within (first_bad narrow l) (short n) h),
          λ _. ((λ h. within (first_repeat narrow l) (short n) h), λ _. tt),
        ),
      ),
    ),
  ),
)
  where
    short : (T (ltb narrow.list_bytes (length l)) → ⊥) → length l ≤ narrow.list_bytes
    short n = nltb→le narrow.list_bytes (length l) (not_T (ltb narrow.list_bytes (length l)) n)

    within : (i : ℕ) → length l ≤ narrow.list_bytes → T (ltb i (records_in narrow l)) → i < 2 ^ 64
    within i k h = omega (arith, ltb→lt i (records_in narrow l) h)

pub line-length-le : (l : List ℕ) (d : ℕ) → d < 2 ^ 32 → length (line_of l d) ≤ line_cap
line-length-le l d h = go (first_reason (build_reasons narrow l d)) refl
  where
    go : (o : Option Refusal) → first_reason (build_reasons narrow l d) ≡ o → length (line_of l d) ≤ line_cap
    go (some f) e =
        let place = first-each Placed (build_reasons narrow l d) (build_placed l d) f e in
        omega (arith, ap length (line_by l d e), refused_line-length-le d f h place)
    go none e =
        let taken : d ≤ degree_high = (degree_range (T-of-not (is_degree d) ((none_iff (build_reasons narrow l d)).0 e).0)).1 in
        omega (arith, ap length (line_by l d e), table_line-length-le d (build_table narrow l d).given (omega arith))

pub line_held : (l : List ℕ) (d : ℕ) → d < 2 ^ 32 → {t : Text} → t ≡ with_bytes (holding []) (line_of l d) → t ≡ holding (line_of l d)
line_held l d h e = e ∙ text_held (line_of l d) (omega (arith, line-length-le l d h))

-- ---- asking for it

module _ (l : List ℕ) (d : ℕ) (room : List ℕ) where
  pub line-put : written [] (line_of l d) room ≡ line_into l d room
  unfolding line_into
  line-put = refl

  pub line-told : {a : Answer} {n : ℕ} {m : List ℕ} → outcome_of a m ≡ line_into l d room → a ≡ Ok n → n ≤ length room
  line-told {a} {n} {m} e r =
      let q = written-told [] (line_of l d) room n m (ap (λ (b : Answer). outcome_of b m) (sym r) ∙ e ∙ sym line-put) in
      omega (arith, q.0, q.1)
