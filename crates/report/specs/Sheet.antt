-- What is said of the import of a gel sheet, in bytes (RULES 13). Laws: `proofs/Laws/Sheet.antt`.
--     taken_line n m       `records N, unread columns M`
--     sheet_line s m       that for a success, with the records that it tells; `refused N`, with the place, for a refusal
-- Assumes nothing.
use Rattle.std.specs.Prelude.{cond, List, ◌++◌, ℕ, eqb}
use Rattle.answers.specs.Refusal.{Sent}
use Rattle.shapes.specs.Characters.{characters}
use Rattle.shapes.specs.Decimal.{decimal}
use Rattle.report.specs.Words.{refused_words}

abbrev pub taken_line : ℕ → ℕ → List ℕ
taken_line n m = characters "records " ++ decimal n ++ characters ", unread columns " ++ decimal m ++ characters "\n"

abbrev pub sheet_line : Sent → ℕ → List ℕ
sheet_line s m = cond (eqb s.number 0) (taken_line s.told m) (refused_words s)
