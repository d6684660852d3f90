-- The code's operations on tallies, as it has them. That they are sums and products of what the tallies encode:
-- `proofs/Tallies/Encoded.antt`.
--     no_tally                             no tuple
--     many_count, exact_count               a count past the limit, and one that is told exactly
--     capped_sum, capped_product            the count of two lists of trees, and of their pairs
--     is_larger, is_before, keeps_first      the tie rule, the order, and whose best a sum has
--     plus_tally, under_tally               the tuples of both; those of the second, each with one more child, the first
-- Assumes nothing.
use Rattle.std.specs.Prelude.{Bool, true, false, cond, ℕ, ◌+◌, ◌-◌, ◌*◌, ◌/◌, eqb, ltb, ℤ, pos, ◌+ℤ◌}
use Rattle.std.specs.Int.Signed.{lt_z}
use Rattle.table.specs.declared.tally.Count.{Count}
use Rattle.table.specs.declared.tally.Tally.{Tally}

abbrev pub no_tally : Tally
no_tally = record { tuples = 0; count = 0; mark = 0; best = pos 0; low = 0; high = 0 }

abbrev pub many_count : ℕ → Count
many_count limit = record { count = limit; mark = 1 }

abbrev pub exact_count : ℕ → Count
exact_count n = record { count = n; mark = 0 }

unfoldable pub capped_sum : ℕ → Tally → Tally → Count
capped_sum limit a b =
    cond (eqb a.mark 1) (many_count limit)
    (cond (eqb b.mark 1) (many_count limit)
    (cond (ltb (limit - b.count) a.count) (many_count limit)
    (exact_count (a.count + b.count))))

unfoldable pub capped_product : ℕ → Tally → Tally → Count
capped_product limit a b =
    cond (eqb a.count 0) (exact_count 0)
    (cond (eqb b.count 0) (exact_count 0)
    (cond (eqb a.mark 1) (many_count limit)
    (cond (eqb b.mark 1) (many_count limit)
    (cond (ltb (limit / b.count) a.count) (many_count limit)
    (exact_count (a.count * b.count))))))

abbrev pub is_larger : Tally → Tally → Bool
is_larger a b = cond (eqb a.high b.high) (ltb b.low a.low) (ltb b.high a.high)

unfoldable pub is_before : Tally → Tally → Bool
is_before a b = cond (lt_z b.best a.best) true (cond (lt_z a.best b.best) false (is_larger a b))

unfoldable pub keeps_first : Tally → Tally → Bool
keeps_first a b = cond (eqb b.count 0) true (cond (eqb a.count 0) false (is_before a b))

abbrev pub with_count : Tally → ℕ → Count → Tally
with_count a n c = record { tuples = n; count = c.count; mark = c.mark; best = a.best; low = a.low; high = a.high }

unfoldable pub plus_tally : ℕ → Tally → Tally → Tally
plus_tally limit a b = with_count (cond (keeps_first a b) a b) (a.tuples + b.tuples) (capped_sum limit a b)

abbrev pub with_tuples : Tally → ℕ → Tally
with_tuples a n = record { tuples = n; count = a.count; mark = a.mark; best = a.best; low = a.low; high = a.high }

abbrev pub join_tally : Tally → Tally → Count → ℤ → Tally
join_tally a b c w = record {
  tuples = b.tuples;
  count = c.count;
  mark = c.mark;
  best = w;
  low = a.low + b.low;
  high = a.high + b.high;
}

unfoldable pub under_tally : ℕ → Tally → Tally → Tally
under_tally limit a b =
    cond (eqb (capped_product limit a b).count 0) (with_tuples no_tally b.tuples)
    (join_tally a b (capped_product limit a b) (a.best +ℤ b.best))
