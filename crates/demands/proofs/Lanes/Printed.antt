-- Two lists with the same scored records have the same answers, the printed line among them.
--     same_answers      the record of `specs/Lanes.antt`
-- Assumes nothing.
use mathlib.Core.Path.{◌≡◌, sym, ap, ap₂, ◌∙◌}
use mathlib.Core.Logic.{◌⊎◌, inl, inr, ◌≢◌}
use mathlib.Core.List.{List, [], ◌++◌}
use Prim.Native.Nat.{ℕ}
use lib.IntN.{ℤ}
use lib.ListN.{length}
use Rattle.laws.specs.Limits.{narrow}
use Rattle.laws.proofs.Keep.{empty-or}
use Rattle.laws.proofs.Width.{narrow_facts}
use Rattle.shapes.specs.Characters.{characters}
use Rattle.shapes.specs.Decimal.{decimal}
use Rattle.shapes.specs.Text.{text_bytes}
use Rattle.answers.specs.Outcome.{Outcome, written}
use Rattle.lists.specs.Records.{rows_of}
use Rattle.table.proofs.Laws.Build.{buildable}
use Rattle.drawing.specs.Built.{built_from}
use Rattle.report.specs.Words.{signed}
use Rattle.report.specs.Line.{line_into}
use Rattle.demands.specs.Trees.{trees_of_list, printed_count}
use Rattle.demands.specs.Lanes.{SameTrees, SameAnswers}
use Rattle.demands.specs.Demands.{DrawsTrees, Prints}
use Rattle.demands.proofs.Drawn.Draws.{draws}
use Rattle.demands.proofs.Drawn.Lines.{prints}
use Rattle.demands.proofs.Lanes.Same.{Two, same-trees}

module _ {d : ℕ} {l m : List ℕ} (two : Two narrow d l m) where
  both : SameTrees narrow d l m
  both = same-trees two

  shown : DrawsTrees narrow d l (built_from narrow d (rows_of narrow l))
  shown = draws narrow narrow_facts d l (buildable narrow_facts two.degree two.one.byte two.one.accepted)

  -- what is printed of the one list, and of the other
  one-prints : Prints d l
  one-prints = prints l d two.degree two.one

  other_prints : Prints d m
  other_prints = prints m d two.degree two.other

  -- the line of a tree with this weight and text, of so many
  abbrev told : List ℕ → ℕ → ℤ → List ℕ → Outcome (List ℕ)
  told room n z text =
      written [] (decimal d ++ characters " " ++ printed_count narrow n ++ characters " " ++ signed z ++ characters " " ++ text
      ++ characters "\n") room

  line_same : (room : List ℕ) → line_into l d room ≡ line_into m d room
  line_same room = go (empty-or (trees_of_list narrow d l))
    where
      go : (trees_of_list narrow d l ≡ []) ⊎ (trees_of_list narrow d l ≢ []) → line_into l d room ≡ line_into m d room
      go (inl e) = one-prints.no_tree e room ∙ sym (other_prints.no_tree (sym both.trees ∙ e) room)
      go (inr n) =
          let q = shown.first n in
          let ys = q.0 in
          let s = shown.shape ys q.1 in
          one-prints.line ys q.1 s.0 s.1 room
          ∙ ap₂ (λ (n : ℕ) (z : ℤ). told room n z (text_bytes s.0)) (ap length both.trees) (both.weights ys q.1.tree)
          ∙ sym (other_prints.line ys ((both.first ys).0 q.1) s.0 s.1 room)

  pub same_answers : SameAnswers d l m
  same_answers = record { trees = both; line = line_same }
