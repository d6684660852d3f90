-- One field of rows in an array (RULES 5): ascending, and zero past them. Laws: `proofs/Column.antt`.
--     column z f es     what f has for the elements of es, the last of them first, and z from there up to the room of an array
-- Assumes nothing.
use Rattle.std.specs.Prelude.{List, ◌++◌, map, reverse, ◌-◌, length, replicate}
use Rattle.laws.specs.Limits.{row_cap}

module _ {A B : Type 0} where
  abbrev pub column : A → (B → A) → List B → List A
  column z f es = reverse (map f es) ++ replicate (row_cap - length es) z
