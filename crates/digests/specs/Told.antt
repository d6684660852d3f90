-- What an import tells a program in another language, for measuring.
--     told_of o     how many records it wrote, 0 on a refusal, and the room afterwards
-- Assumes nothing.
use Rattle.std.specs.Prelude.{ℕ, List}
use Rattle.answers.specs.Outcome.{Outcome}
use Rattle.gel.specs.Import.{Imported}

abbrev pub told_of : Outcome Imported → ℕ × List ℕ
told_of o = (o.sent.told, o.given.room)
