-- A record and its bytes, low byte first: first the cluster, unsigned; then four bytes of weight, signed two's complement; one of state;
-- three that are zero (RULES 2). A narrow record has four bytes of cluster, and so twelve. Laws: `proofs/Laws/Record.antt`.
--     weight_at, state_at, spare_at W, spare_bytes     where its parts start, and how many bytes are spare
--     row_of W l        the row that the bytes of a record hold
--     has_spare W l     one of the spare bytes isn't zero
--     bytes_of W r      the bytes of a row
--     record_bytes      how many bytes a narrow record has
--     record_of l       the narrow record that twelve bytes hold
--     row_in r          a narrow record as a row
-- Assumes nothing.
use Rattle.std.specs.Prelude.{Bool, not, List, ◌∷◌, ◌++◌, ℕ, ◌+◌, eqb, get_or}
use Rattle.std.specs.Int.{w32}
use Rattle.std.proofs.Common.{to_z, of_z}
use Rattle.laws.specs.Limits.{Width, narrow}
use Rattle.laws.specs.Row.{Row}
use Rattle.cluster.specs.declared.record.Record.{Record}
use Rattle.cluster.specs.Bytes.{word_bytes, number_at, low_first}

abbrev pub spare_bytes : ℕ
spare_bytes = 3

module _ (W : Width) where
  abbrev pub weight_at : ℕ
  weight_at = W.cluster_bytes

  abbrev pub state_at : ℕ
  state_at = W.cluster_bytes + 4

  abbrev pub spare_at : ℕ
  spare_at = W.cluster_bytes + 5

  abbrev pub row_of : List ℕ → Row
  row_of l = record {
    cluster = number_at W.cluster_bytes l 0;
    weight = to_z w32 (number_at word_bytes l weight_at);
    state = get_or l state_at 0;
  }

  abbrev pub has_spare : List ℕ → Bool
  has_spare l = not (eqb (number_at spare_bytes l spare_at) 0)

  abbrev pub bytes_of : Row → List ℕ
  bytes_of r =
      low_first W.cluster_bytes r.cluster ++ low_first word_bytes (of_z w32 r.weight) ++ r.state ∷ low_first spare_bytes 0

-- ---- the narrow record
abbrev pub record_bytes : ℕ
record_bytes = narrow.record_bytes

abbrev pub row_in : Record → Row
row_in r = record { cluster = r.cluster; weight = r.weight; state = r.state }

abbrev pub record_of : List ℕ → Record
record_of l = let r = row_of narrow l in record { cluster = r.cluster; weight = r.weight; state = r.state }
