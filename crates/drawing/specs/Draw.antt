-- What is sent back when a tree or a text is asked for (RULES 8 and 9). What is drawn, and why nothing is, stands in `specs/Draw.antt` of
-- the crate `members`. Laws: `proofs/Laws/Draw.antt`.
--     draw_tree W t l       what asking for the tree gives, in the room l
--     leaf_text t           the text of the members of the leaf set's row
--     TextAt, no_text, text_at t     a row and a text; nothing drawn: all zero; what is drawn
--     drawn_text W t        the text by value: a success tells its bytes
--     drawn_text_of r        the code's value or refusal as an outcome: the bytes of the text are told, and on a refusal all is zero
--     draw_text W t l       what asking for the text gives, in the room l
--     TextDrawn W t r      what is known of a text by value that isn't refused
-- Assumes nothing.
use Rattle.std.specs.Prelude.{◌≡◌, List, [], ℕ, length, Result}
use Rattle.std.proofs.Math.Option.{none}
use Rattle.laws.specs.Limits.{Width}
use Rattle.answers.specs.declared.refusal.Refusal.{Refusal}
use Rattle.answers.specs.Outcome.{Outcome, result_of, ended, written}
use Rattle.answers.specs.Reasons.{first_reason}
use Rattle.shapes.specs.Drawn.{text_of}
use Rattle.texts.specs.declared.text.Text.{Text}
use Rattle.texts.specs.Text.{holding}
use Rattle.kept.specs.declared.table.Table.{Table}
use Rattle.kept.specs.Rows.{leaf_set}
use Rattle.members.specs.Draw.{leaf_row, members_of, draw_reasons}
use Rattle.members.specs.Drawable.{Drawable}
use Rattle.drawing.specs.declared.drawing.DrawnText.{DrawnText}

unfoldable pub draw_tree : Width → Table → List ℕ → Outcome (List ℕ)
draw_tree W t l = written (draw_reasons W t) (members_of t) l

-- ---- the text
abbrev pub leaf_text : Table → List ℕ
leaf_text t = text_of (members_of t) (leaf_set t)

pub record TextAt : Type 0 where
  pub row : ℕ
  pub text : Text

abbrev pub no_text : TextAt
no_text = record { row = 0; text = holding [] }

abbrev pub text_at : Table → TextAt
text_at t = record { row = leaf_row t; text = holding (leaf_text t) }

unfoldable pub drawn_text : Width → Table → Outcome TextAt
drawn_text W t = ended (first_reason (draw_reasons W t)) no_text (length (leaf_text t)) (text_at t)

abbrev pub drawn_text_of : Result DrawnText Refusal → Outcome TextAt
drawn_text_of =
    result_of (λ (r : DrawnText). r.text.size) (λ (r : DrawnText). record { row = r.row; text = r.text }) no_text

unfoldable pub draw_text : Width → Table → List ℕ → Outcome (List ℕ)
draw_text W t l = written (draw_reasons W t) (leaf_text t) l

-- ---- what is known of a text by value that isn't refused
pub record TextDrawn (W : Width) (t : Table) (r : DrawnText) : Type 0 where
  pub unrefused : first_reason (draw_reasons W t) ≡ none
  pub table : Drawable W t
  pub row : r.row ≡ leaf_row t
  pub text : r.text ≡ holding (leaf_text t)
