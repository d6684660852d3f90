-- A table as one number, for measuring: every result of every row goes into it, so that no part of the work can be left out.
-- Laws: `proofs/Laws/Digest.antt`.
--     wrap a b                 a sum of 64 bits: past them from the start again
--     row_digest                the results of one row, added up
--     Results, results_of t     the six arrays of results, and those of a table
--     Full                     each of them has room for all rows
--     digest_to k n, digest t   the digests of the first n rows, added up, and those of all 128 rows of a table
--     rescored_times            a table after some rescorings to the same score, each handing on what it hands back
-- Assumes nothing.
use Rattle.std.specs.Prelude.{ℕ, zero, suc, ◌+◌, ◌%◌, ◌≤◌, List, length, ℤ, pos, slice_index, slice_index_or}
use Rattle.std.specs.Int.{w64}
use Rattle.std.proofs.Common.{of_z}
use Rattle.kept.specs.declared.table.Table.{Table}
use Rattle.laws.specs.Limits.{narrow, row_cap, word_values}
use Rattle.table.specs.Rescore.{rescore_table}

abbrev pub wrap : ℕ → ℕ → ℕ
wrap a b = (a + b) % word_values

-- length, count, mark, best by its bits in two's complement, low marks, high marks
abbrev pub row_digest : ℕ → ℕ → ℕ → ℤ → ℕ → ℕ → ℕ
row_digest n c m b l h = wrap (wrap (wrap n c) (wrap l h)) (wrap m (of_z w64 b))

pub record Results : Type 0 where
  pub lengths : List ℕ
  pub counts : List ℕ
  pub marks : List ℕ
  pub bests : List ℤ
  pub lows : List ℕ
  pub highs : List ℕ

abbrev pub results : List ℕ → List ℕ → List ℕ → List ℤ → List ℕ → List ℕ → Results
results n c m b l h = record { lengths = n; counts = c; marks = m; bests = b; lows = l; highs = h }

abbrev pub results_of : Table → Results
results_of t = results t.lengths t.counts t.marks t.bests t.members_low t.members_high

pub record Full (k : Results) : Type 0 where
  pub lengths : row_cap ≤ length k.lengths
  pub counts : row_cap ≤ length k.counts
  pub marks : row_cap ≤ length k.marks
  pub bests : row_cap ≤ length k.bests
  pub lows : row_cap ≤ length k.lows
  pub highs : row_cap ≤ length k.highs

abbrev pub row_digest_at : Results → ℕ → ℕ
row_digest_at k i =
    row_digest (slice_index k.lengths i) (slice_index k.counts i) (slice_index k.marks i) (slice_index_or k.bests i (pos 0))
    (slice_index k.lows i) (slice_index k.highs i)

-- those of the first rows
unfoldable pub digest_to : Results → ℕ → ℕ
digest_to k zero = 0
digest_to k (suc i) = wrap (digest_to k i) (row_digest_at k i)

abbrev pub digest : Table → ℕ
digest t = digest_to (results_of t) row_cap

unfoldable pub rescored_times : ℕ → ℕ → ℤ → ℕ → Table → Table
rescored_times zero c z s t = t
rescored_times (suc n) c z s t = (rescore_table narrow (rescored_times n c z s t) c z s).given
