-- What it is that a table ends as is told, by the specifications of drawing, in every room.
--     Said x n         n is the number that is told, where one is told
--     RowTold t x      the leaf set's row is as told
--     refusal n l      what is sent back: the refusal of number n, with the room as it was
--     Refuses t n      tree and text give the refusal of number n, and leave every room as it was
--     Draws t x        the leaf set's row, the tree and the text are as told
--     Told t e         either of the two
-- Assumes nothing.
use Rattle.std.specs.Prelude.{◌≡◌, List, [], ℕ}
use Rattle.std.proofs.Math.Option.{Option, none, some}
use Rattle.laws.specs.Limits.{narrow}
use Rattle.answers.specs.Outcome.{Outcome, written}
use Rattle.shapes.specs.Characters.{characters}
use Rattle.kept.specs.declared.table.Table.{Table}
use Rattle.members.specs.Draw.{leaf_result}
use Rattle.drawing.specs.Draw.{draw_tree, draw_text}
use Rattle.examples.specs.Case.{ToldTree, Ending, refused, drawn}

abbrev pub Said : Option ℕ → ℕ → Type 0
Said none n = Unit {0}
Said (some m) n = n ≡ m

-- the count is told exactly, so it is not marked
pub record RowTold (t : Table) (x : ToldTree) : Type 0 where
  pub count : (leaf_result t).count ≡ x.count
  pub mark : (leaf_result t).mark ≡ 0
  pub weight : (leaf_result t).best ≡ x.weight
  pub row_length : Said x.row_length (leaf_result t).length

abbrev pub refusal : ℕ → List ℕ → Outcome (List ℕ)
refusal n l = record { sent = record { number = n; position = 0; told = 0 }; given = l }

pub record Refuses (t : Table) (n : ℕ) : Type 0 where
  pub tree : (l : List ℕ) → draw_tree narrow t l ≡ refusal n l
  pub text : (l : List ℕ) → draw_text narrow t l ≡ refusal n l

pub record Draws (t : Table) (x : ToldTree) : Type 0 where
  pub row : RowTold t x
  pub tree : (l : List ℕ) → draw_tree narrow t l ≡ written [] x.members l
  pub text : (l : List ℕ) → draw_text narrow t l ≡ written [] (characters x.text) l

abbrev pub Told : Table → Ending → Type 0
Told t (refused n) = Refuses t n
Told t (drawn x) = Draws t x
