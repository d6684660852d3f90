-- The printed line of an accepted list, in words: demand 2 of the line.
--     prints            the line of a list tells its trees
-- Assumes nothing.
use mathlib.Core.Path.{◌≡◌, refl, sym, ap, ap₂, ◌∙◌, subst}
use mathlib.Core.Logic.{◌⊎◌, inl, inr, ◌≢◌}
use mathlib.Core.Option.{Option, some}
use mathlib.Core.List.{List, [], ◌++◌}
use mathlib.Core.List.Memᴰ.{not-nil as mem-nil}
use mathlib.Core.List.{Memᴰ as Mem}
use Prim.Native.Nat.{ℕ, ◌≤◌}
use native.Mathlib.Nat.{le_trans}
use native.Mathlib.Omega.{arith}
use lib.Dec.{T, T_not}
use lib.IntN.{ℤ}
use lib.ListN.{length}
use Rattle.laws.specs.Limits.{narrow, is_degree}
use Rattle.laws.specs.Row.{Row}
use Rattle.laws.proofs.Keep.{empty-or}
use Rattle.laws.proofs.Width.{narrow_facts, degree_range}
use Rattle.trees.specs.Result.{Result}
use Rattle.trees.specs.Heaviest.{weight_of, first_heaviest}
use Rattle.shapes.specs.Characters.{characters}
use Rattle.shapes.specs.Decimal.{decimal}
use Rattle.shapes.specs.Shape.{Shape}
use Rattle.shapes.specs.Text.{text_bytes}
use Rattle.shapes.specs.Drawn.{text_of}
use Rattle.shapes.proofs.Backward.{text-reverse}
use Rattle.std.specs.Prelude.{Ok}
use Rattle.answers.specs.declared.refusal.Refusal.{Refusal}
use Rattle.answers.specs.Outcome.{Outcome, outcome_of, written}
use Rattle.answers.proofs.Laws.Outcome.{written-whole, written_same}
use Rattle.answers.proofs.Laws.Reasons.{none_iff}
use Rattle.lists.specs.Records.{rows_of}
use Rattle.lists.proofs.Theorems.{accepted_iff}
use Rattle.kept.specs.declared.table.Table.{Table}
use Rattle.kept.specs.View.{result_at}
use Rattle.table.specs.Build.{build_reasons, build_table}
use Rattle.table.specs.Changes.{AcceptedBytes}
use Rattle.table.proofs.Laws.Build.{Buildable, buildable, build_of}
use Rattle.members.specs.Draw.{leaf_row}
use Rattle.drawing.specs.Built.{built_from}
use Rattle.drawing.specs.Draw.{leaf_text}
use Rattle.drawing.proofs.LeafRow.{leaf_set_is, leaf-listed}
use Rattle.drawing.proofs.LeafTree.{members_back}
use Rattle.drawing.proofs.DrawnTables.{refused_iff, drawn_iff}
use Rattle.report.specs.Words.{signed, refused_line, tree_line}
use Rattle.report.specs.Line.{line_cap, line_for, table_line, line_of, line_into}
use Rattle.report.proofs.Laws.Line.{table-refused, built_done, line-length-le, line-put}
use Rattle.demands.specs.Demands.{FirstTree, LineIs, Prints}
use Rattle.demands.specs.Sending.{sent_back}
use Rattle.demands.specs.Trees.{leaf_set_of, trees_of_list, TellsTrees, ShapeOf, printed_count}
use Rattle.demands.proofs.Drawn.First.{→found}
use Rattle.demands.proofs.Drawn.Told.{rows_tell}
use Rattle.demands.proofs.Shapes.{shape_is}
use Rattle.demands.proofs.Drawn.Draws.{tree_on}
use Rattle.demands.proofs.Drawn.LineBytes.{tree-not-refused, seven_not_eight, count_printed}

-- ---- the line of an accepted list

module _ (l : List ℕ) (d : ℕ) (degree : T (is_degree d)) (a : AcceptedBytes narrow l) where
  abbrev rs : List Row
  rs = rows_of narrow l

  abbrev t : Table
  t = built_from narrow d rs

  abbrev trees : List (List ℕ)
  trees = trees_of_list narrow d l

  k : Buildable narrow d rs
  k = buildable narrow_facts degree a.byte a.accepted

  built : outcome_of (Ok 0) t ≡ build_table narrow l d
  built =
      sym (build_of narrow l d ((none_iff (build_reasons narrow l d)).1
      (λ n. T_not (is_degree d) n degree, (accepted_iff narrow l).1 a.accepted)))

  line_is : table_line d t ≡ line_of l d
  line_is = built_done l d built refl

  says : (bytes : List ℕ) → line_of l d ≡ bytes → (room : List ℕ) → LineIs d l bytes room
  says bytes e room = sym (line-put l d room) ∙ ap (λ (x : List ℕ). written [] x room) e

  fits : (room : List ℕ) → line_cap ≤ length room → length (line_of l d) ≤ length room
  fits room h = let most = (degree_range {d = d} degree).1 in le_trans (line-length-le l d (omega arith)) h

  said : (bytes room : List ℕ) → line_cap ≤ length room → LineIs d l bytes room → line_of l d ≡ bytes
  said bytes room h e = written_same (line_of l d) bytes room (fits room h) (line-put l d room ∙ e)

  -- ---- by whether there is a tree

  none-line : trees ≡ [] → line_of l d ≡ refused_line d (sent_back 7 0)
  none-line n = sym (table-refused d t ((refused_iff narrow narrow_facts d rs k).1 n) ∙ line_is)

  abbrev leaf : Result
  leaf = result_at t (leaf_row t)

  some-line : trees ≢ [] → line_of l d ≡ tree_line d leaf.count leaf.mark leaf.best (leaf_text t)
  some-line n =
      sym line_is
      ∙ ap (λ (o : Option Refusal). line_for d o (tree_line d leaf.count leaf.mark leaf.best (leaf_text t)))
      ((drawn_iff narrow narrow_facts d rs k).1 n)

  no_tree : line_of l d ≡ refused_line d (sent_back 7 0) → trees ≡ []
  no_tree e = go (empty-or trees)
    where
      go : (trees ≡ []) ⊎ (trees ≢ []) → trees ≡ []
      go (inl n) = n
      go (inr n) = absurd (tree-not-refused d leaf.count leaf.mark leaf.best (leaf_text t) 7 0 (sym (some-line n) ∙ e))

  never_eight : line_of l d ≢ refused_line d (sent_back 8 0)
  never_eight e = go (empty-or trees)
    where
      go : (trees ≡ []) ⊎ (trees ≢ []) → ⊥
      go (inl n) = seven_not_eight d (sym (none-line n) ∙ e)
      go (inr n) = tree-not-refused d leaf.count leaf.mark leaf.best (leaf_text t) 8 0 (sym (some-line n) ∙ e)

  -- ---- the line of the first heaviest tree

  module _ (ys : List ℕ) (f : FirstTree narrow d l ys) (s : Shape) (p : ShapeOf ys s) where
    found : first_heaviest rs trees ≡ some ys
    found = →found narrow.taxa d rs k.facts (leaf_set_of narrow l) ys f

    there : trees ≢ []
    there e = mem-nil (subst (Mem ys) e f.tree)

    tell : TellsTrees narrow rs trees leaf
    tell = (rows_tell narrow narrow_facts d l k).leaf (leaf-listed narrow narrow_facts d rs k ys f.tree)

    text_is : leaf_text t ≡ text_bytes s
    text_is =
        let on = tree_on narrow narrow_facts d l k ys f in
        ap₂ text_of (members_back narrow narrow_facts d rs k ys found) (leaf_set_is narrow narrow_facts d rs k)
        ∙ text-reverse ys (leaf_set_of narrow l) on
        ∙ ap text_bytes (sym (shape_is (leaf_set_of narrow l) ys on s p))

    tree_line_lem : line_of l d ≡ (decimal d ++ characters " " ++ printed_count narrow (length trees) ++ characters " "
        ++ signed (weight_of rs ys) ++ characters " " ++ text_bytes s ++ characters "\n")
    tree_line_lem =
        some-line there
        ∙ ap₂ (λ (c x : List ℕ). decimal d ++ characters " " ++ c ++ characters " " ++ signed leaf.best ++ characters " " ++ x
        ++ characters "\n")
        (count_printed trees rs leaf tell) text_is
        ∙ ap (λ (z : ℤ). decimal d ++ characters " " ++ printed_count narrow (length trees) ++ characters " " ++ signed z
        ++ characters " " ++ text_bytes s ++ characters "\n") (tell.best ys f)

  enough : (room : List ℕ) → line_cap ≤ length room → (line_into l d room).sent.number ≢ 11
  enough room h e =
      let done = written-whole [] (line_of l d) room refl (fits room h) in
      omega (arith, e, ap (λ (o : Outcome (List ℕ)). o.sent.number) (sym (line-put l d room) ∙ done))

  pub prints : Prints d l
  prints = record {
    no_tree = λ n. says (refused_line d (sent_back 7 0)) (none-line n);
    only_then = λ room h e. no_tree (said (refused_line d (sent_back 7 0)) room h e);
    never = λ room h e. never_eight (said (refused_line d (sent_back 8 0)) room h e);
    line = λ ys f s p. says _ (tree_line_lem ys f s p);
    enough = enough;
  }
