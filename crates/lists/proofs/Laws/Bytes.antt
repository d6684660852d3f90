-- Bytes stay bytes.
--     append-bytes, take-bytes, drop-bytes     put together, and taken apart
--     row-bytes                                those of a row
-- Assumes nothing.
use mathlib.Core.List.{List, [], ◌∷◌, ◌++◌}
use Prim.Native.Nat.{ℕ, zero, suc, ◌+◌, ◌/◌, ◌<◌}
use native.Mathlib.Omega.{arith}
use lib.ListN.{take, drop}
use lib.Seq.{get_or-drop}
use mir.Syntax.{w32}
use mir.Val.{of_z}
use Rattle.laws.specs.Limits.{Width}
use Rattle.laws.specs.Row.{Row}
use Rattle.cluster.specs.Bytes.{byte_values, word_bytes, low_first}
use Rattle.cluster.specs.Record.{bytes_of, spare_bytes}
use Rattle.lists.specs.Accepted.{Bytes}

pub append-bytes : (l m : List ℕ) → Bytes l → Bytes m → Bytes (l ++ m)
append-bytes [] m a b i = b i
append-bytes (x ∷ l) m a b zero = a 0
append-bytes (x ∷ l) m a b (suc i) = append-bytes l m (λ j. a (suc j)) b i

pub take-bytes : (n : ℕ) (l : List ℕ) → Bytes l → Bytes (take n l)
take-bytes zero l a i = omega arith
take-bytes (suc n) [] a i = omega arith
take-bytes (suc n) (x ∷ l) a zero = a 0
take-bytes (suc n) (x ∷ l) a (suc i) = take-bytes n l (λ j. a (suc j)) i

pub drop-bytes : (n : ℕ) (l : List ℕ) → Bytes l → Bytes (drop n l)
drop-bytes n l a i = rw (get_or-drop n l i 0) (a (n + i))

low-bytes : (k n : ℕ) → Bytes (low_first k n)
low-bytes zero n i = omega arith
low-bytes (suc k) n zero = omega arith
low-bytes (suc k) n (suc i) = low-bytes k (n / byte_values) i

pub row-bytes : (W : Width) (r : Row) → r.state < byte_values → Bytes (bytes_of W r)
row-bytes W r h =
    append-bytes (low_first W.cluster_bytes r.cluster ++ low_first word_bytes (of_z w32 r.weight)) (r.state ∷ low_first spare_bytes 0)
    (append-bytes (low_first W.cluster_bytes r.cluster) (low_first word_bytes (of_z w32 r.weight))
    (low-bytes W.cluster_bytes r.cluster) (low-bytes word_bytes (of_z w32 r.weight)))
    (first (low-bytes spare_bytes 0))
  where
    first : Bytes (low_first spare_bytes 0) → Bytes (r.state ∷ low_first spare_bytes 0)
    first b zero = h
    first b (suc i) = b i
