-- The words of a printed line, in bytes (RULES 10). Laws: `proofs/Laws/Words.antt`.
--     signed z                  a weight in decimal, with a minus sign where it is negative
--     count_word c m             a count in decimal, or `many` where its mark is 1
--     place_word n p             ` at P` for 5, 6 and 12, else nothing
--     refused_words s            `refused N`, with the place: the end of a line
--     refused_line d s           `d` and these
--     tree_line d c m best text  `d count weight text`
-- Assumes nothing.
use Rattle.std.specs.Prelude.{Bool, cond, ◌||◌, List, [], ◌++◌, ℕ, eqb, ℤ, pos, nat_abs}
use Rattle.std.specs.Int.Signed.{lt_z}
use Rattle.answers.specs.Refusal.{Sent}
use Rattle.shapes.specs.Characters.{characters}
use Rattle.shapes.specs.Decimal.{decimal}

abbrev pub signed : ℤ → List ℕ
signed z = cond (lt_z z (pos 0)) (characters "-" ++ decimal (nat_abs z)) (decimal (nat_abs z))

abbrev pub count_word : ℕ → ℕ → List ℕ
count_word c m = cond (eqb m 1) (characters "many") (decimal c)

abbrev pub has_position : ℕ → Bool
has_position n = eqb n 5 || eqb n 6 || eqb n 12

abbrev pub place_word : ℕ → ℕ → List ℕ
place_word n p = cond (has_position n) (characters " at " ++ decimal p) []

abbrev pub refused_words : Sent → List ℕ
refused_words s = characters "refused " ++ decimal s.number ++ place_word s.number s.position ++ characters "\n"

abbrev pub refused_line : ℕ → Sent → List ℕ
refused_line d s = decimal d ++ characters " " ++ refused_words s

abbrev pub tree_line : ℕ → ℕ → ℕ → ℤ → List ℕ → List ℕ
tree_line d c m best text =
    decimal d ++ characters " " ++ count_word c m ++ characters " " ++ signed best ++ characters " " ++ text ++ characters "\n"
