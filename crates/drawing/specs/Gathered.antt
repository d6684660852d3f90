-- What the private functions of `drawing` cite; no public promise does.
--     comma_before C left   the comma before the child that is next where the taxa left of C are yet to be written: none before the first
--     Narrow xs            the clusters have 32 bits
-- Assumes nothing.
use Rattle.std.specs.Prelude.{cond, ℕ, ◌^◌, ◌<◌, eqb}
use mathlib.Core.List.{List, [], ◌∷◌, Memᴰ as Mem}
use Rattle.laws.specs.Limits.{narrow}
use Rattle.shapes.specs.Text.{comma}

abbrev pub comma_before : ℕ → ℕ → List ℕ
comma_before C left = cond (eqb left C) [] (comma ∷ [])

abbrev pub Narrow : List ℕ → Type 0
Narrow xs = (c : ℕ) → Mem c xs → c < 2 ^ narrow.taxa
