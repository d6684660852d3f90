-- Bytes in plain characters, so that texts can be held against those of the rules (RULES 9 to 11).
--     characters s     the bytes of a text
-- Assumes nothing.
use Rattle.std.specs.Prelude.{List, [], ◌∷◌, ℕ}
use Prim.Native.Char.{code}
use Prim.Native.String.{String, [] as end, ◌∷◌ as then}

abbrev pub characters : String → List ℕ
characters end = []
characters (then c s) = code c ∷ characters s
