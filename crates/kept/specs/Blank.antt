-- What is all zero: results, and rows (RULES 5). Laws: `proofs/Laws/Blank.antt`.
--     is_zero z        a weight of nought
--     is_nothing v     no member is marked, and mark and best weight are zero
--     is_blank v       every result is zero
--     is_empty e       the whole row is
--     empty_row        such a row
-- Assumes nothing.
use Rattle.std.specs.Prelude.{Bool, ◌&&◌, eqb, ℤ, pos, nat_abs}
use Rattle.trees.specs.Rows.{Entry}
use Rattle.trees.specs.Result.{Result, blank}

abbrev pub is_zero : ℤ → Bool
is_zero z = eqb (nat_abs z) 0

abbrev pub is_nothing : Result → Bool
is_nothing v = eqb v.members 0 && (eqb v.mark 0 && is_zero v.best)

abbrev pub is_blank : Result → Bool
is_blank v = eqb v.length 0 && (eqb v.count 0 && is_nothing v)

abbrev pub is_empty : Entry Result → Bool
is_empty e = eqb e.row.cluster 0 && (is_zero e.row.weight && (eqb e.row.state 0 && is_blank e.val))

abbrev pub empty_row : Entry Result
empty_row = record { row = record { cluster = 0; weight = pos 0; state = 0 }; val = blank }
