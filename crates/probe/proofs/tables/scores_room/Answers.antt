-- A repeat has the length that it was made with, for any number: 851,955 is too large to be counted out. Assumes nothing.
use Rattle.std.proofs.Common.{◌≡◌, ℕ, length, replicate, sym}
use Rattle.std.proofs.lemmas.List.{length-replicate}
use Rattle.probe.proofs.tables.scores_room.Goals as goal

made : (n : ℕ) → n ≡ length (replicate {A = ℕ} n 0)
made n = sym (length-replicate n 0)

pub returns : goal.returns
returns c = made 851955
