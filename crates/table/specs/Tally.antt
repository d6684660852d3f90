-- Tallies: what the search of tuples adds up, as the code holds it. A tally encodes a number of tuples with, where one of them has no zero
-- count, a true count and the first of the keys: the count stopped at the limit, the set as two words. Sums of them: `Sums.antt`.
--     tally_of limit x       the tally of a result
--     decoded v             the count and key that a row's fields stand for
--     fields_tally v         the fields of a row as a tally
--     low_mark, high_mark, own_tally     a row by itself
-- Assumes nothing.
use Rattle.std.specs.Prelude.{cond, ℕ, ◌+◌, ◌-◌, ◌/◌, ◌%◌, ◌^◌, eqb, ltb, ℤ, pos}
use Rattle.std.proofs.Math.Option.{Option, none, some}
use Rattle.trees.specs.Result.{Result, count_field, mark_field}
use Rattle.trees.specs.Solution.{Sol, Res}
use Rattle.laws.specs.Limits.{word_values}
use Rattle.table.specs.declared.tally.Tally.{Tally}

abbrev pub tally_with : ℕ → ℕ → Option Sol → Tally
tally_with limit n none = record { tuples = n; count = 0; mark = 0; best = pos 0; low = 0; high = 0 }
tally_with limit n (some x) = record {
  tuples = n;
  count = count_field limit x.0;
  mark = mark_field limit x.0;
  best = x.1.0;
  low = x.1.1 % word_values;
  high = x.1.1 / word_values;
}

abbrev pub tally_of : ℕ → Res → Tally
tally_of limit x = tally_with limit x.0 x.1

-- a marked count stands for one past the limit
abbrev pub decoded : Result → Option Sol
decoded v = cond (eqb v.count 0) none (some (v.count + v.mark, (v.best, v.members)))

-- the fields of a row as a tally, the row length being its number of tuples
abbrev pub fields_tally : Result → Tally
fields_tally v = record {
  tuples = v.length;
  count = v.count;
  mark = v.mark;
  best = v.best;
  low = v.members % word_values;
  high = v.members / word_values;
}

-- ---- a row by itself
abbrev pub low_mark : ℕ → ℕ
low_mark i = cond (ltb i 64) (2 ^ i) 0

abbrev pub high_mark : ℕ → ℕ
high_mark i = cond (ltb i 64) 0 (2 ^ (i - 64))

abbrev pub own_tally : ℕ → ℤ → ℕ → Tally
own_tally n z i = record { tuples = n; count = 1; mark = 0; best = z; low = low_mark i; high = high_mark i }
