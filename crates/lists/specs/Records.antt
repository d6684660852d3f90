-- The records of a list (RULES 2). Laws: `proofs/Laws/Records.antt`.
--     records_in W l          how many records
--     bytes_at, listed_at W l i     the bytes of record i, and record i as a row
--     rows_of W l             the rows of a list, the largest cluster first
--     breaks, repeats W l i  record i breaks the record rules; it has the cluster of an earlier record
--     first_bad, first_repeat W l     the first record that does; the number of records where none does
-- Assumes nothing.
use Rattle.std.specs.Prelude.{Bool, not, List, ℕ, ◌*◌, ◌/◌, length, take, drop}
use Rattle.laws.specs.Limits.{Width}
use Rattle.laws.specs.Orders.{first_from}
use Rattle.laws.specs.Row.{Row}
use Rattle.cluster.specs.Record.{row_of}
use Rattle.cluster.specs.Reading.{rule_of}
use Rattle.cluster.specs.Rule.{is_kept}
use Rattle.lists.specs.Rows.{rows_to, is_repeat}

module _ (W : Width) (l : List ℕ) where
  abbrev pub records_in : ℕ
  records_in = length l / W.record_bytes

  abbrev pub bytes_at : ℕ → List ℕ
  bytes_at i = take W.record_bytes (drop (i * W.record_bytes) l)

  abbrev pub listed_at : ℕ → Row
  listed_at i = row_of W (bytes_at i)

  abbrev pub rows_of : List Row
  rows_of = rows_to listed_at records_in

  abbrev pub breaks : ℕ → Bool
  breaks i = not (is_kept (rule_of W (bytes_at i)))

  abbrev pub first_bad : ℕ
  first_bad = first_from breaks 0 records_in

  abbrev pub repeats : ℕ → Bool
  repeats i = is_repeat listed_at i

  abbrev pub first_repeat : ℕ
  first_repeat = first_from repeats 0 records_in
