-- A list with its unscored records left out, `without_unscored` of `specs/ListFrom.antt`, where the list is accepted.
--     without_bytes            bytes stay bytes
--     without_records          its records are the scored records of the list, unchanged and in their order
--     without_rows             its rows are the scored rows of the list
--     without_accepted         it is accepted where the list has a scored row
-- Assumes nothing.
use mathlib.Core.Path.{◌≡◌, sym, subst}
use mathlib.Core.Logic.{◌↔◌}
use mathlib.Core.List.{List, [], ◌∷◌, map}
use mathlib.Core.List.{Memᴰ as Mem}
use Prim.Native.Nat.{ℕ, ◌*◌, ◌≤◌}
use native.Mathlib.Nat.{div-add-mod, mul_comm, mul-le-mul_right}
use native.Mathlib.Omega.{arith}
use lib.Dec.{T}
use lib.ListN.{length}
use Rattle.laws.specs.Limits.{Width}
use Rattle.laws.specs.Lists.{keep, Once}
use Rattle.laws.specs.Row.{Row, is_scored}
use Rattle.laws.specs.Widths.{WidthFacts}
use Rattle.laws.proofs.Down.{down_length}
use Rattle.laws.proofs.Keep.{mem-keep, mem_of_keep, length-keep-le}
use Rattle.laws.proofs.Once.{once-map-keep}
use Rattle.cluster.specs.Record.{row_of}
use Rattle.lists.specs.Records.{records_in, bytes_at, rows_of}
use Rattle.lists.specs.ListFrom.{records_down, cluster_in, has_score, without_unscored}
use Rattle.lists.specs.Accepted.{Bytes, Accepted}
use Rattle.lists.proofs.Laws.ListFrom.{Sized, from_back, from_bytes, from-accepted}
use Rattle.lists.proofs.Laws.RecordBytes.{records-sized, records-bytes, records-row_iff, records-kept_iff, records-once_iff}

module _ (W : Width) (facts : WidthFacts W) (l : List ℕ) (byte : Bytes l) (a : Accepted W l) where
  abbrev left : List (List ℕ)
  left = keep (has_score W) (records_down W l)

  from_list : (b : List ℕ) → Mem b left → Mem b (records_down W l)
  from_list b m = (mem_of_keep (has_score W) (records_down W l) m).0

  left-sized : Sized W left
  left-sized b m = records-sized W l b (from_list b m)

  pub without_bytes : Bytes (without_unscored W l)
  without_bytes = from_bytes left (λ b m. records-bytes W l byte b (from_list b m))

  pub without_records : records_down W (without_unscored W l) ≡ keep (has_score W) (records_down W l)
  without_records = from_back W facts left left-sized

  -- ---- the rows
  left-row_iff : (r : Row) → Mem r (rows_of W (without_unscored W l)) ↔ ((b : List ℕ) × Mem b left × (r ≡ row_of W b))
  left-row_iff r =
      subst (λ (bs : List (List ℕ)). Mem r (rows_of W (without_unscored W l)) ↔ ((b : List ℕ) × Mem b bs × (r ≡ row_of W b)))
      without_records (records-row_iff W (without_unscored W l) r)

  pub without_rows : (r : Row) → Mem r (rows_of W (without_unscored W l)) ↔ (Mem r (rows_of W l) × T (is_scored r))
  without_rows r = (to, from)
    where
      from : Mem r (rows_of W l) × T (is_scored r) → Mem r (rows_of W (without_unscored W l))
      from h =
          let q = (records-row_iff W l r).0 h.0 in
          (left-row_iff r).1 (q.0, mem-keep (has_score W) (records_down W l) q.1 (subst (λ (x : Row). T (is_scored x)) q.2 h.1), q.2)

      to : Mem r (rows_of W (without_unscored W l)) → Mem r (rows_of W l) × T (is_scored r)
      to m =
          let q = (left-row_iff r).0 m in
          let k = mem_of_keep (has_score W) (records_down W l) q.1 in
          ((records-row_iff W l r).1 (q.0, k.0, q.2), subst (λ (x : Row). T (is_scored x)) (sym q.2) k.1)

  -- ---- the list
  left-few : length left * W.record_bytes ≤ W.list_bytes
  left-few =
      omega (
        arith,
        mul-le-mul_right W.record_bytes fewer,
        div-add-mod (length l) W.record_bytes,
        mul_comm (records_in W l) W.record_bytes,
        a.short,
      )
    where
      fewer : length left ≤ records_in W l
      fewer = omega (arith, length-keep-le (has_score W) (records_down W l), down_length (bytes_at W l) (records_in W l))

  left-once : Once (map (cluster_in W) left)
  left-once = once-map-keep (cluster_in W) (has_score W) (records_down W l) ((records-once_iff W l).0 a.once)

  pub without_accepted : (r : Row) → Mem r (rows_of W l) → T (is_scored r) → Accepted W (without_unscored W l)
  without_accepted r m t =
      from-accepted W facts left left-sized (some left ((left-row_iff r).0 ((without_rows r).1 (m, t))).1) left-few
      (λ b k. (records-kept_iff W l).0 a.kept b (from_list b k)) left-once
    where
      some : {b : List ℕ} (bs : List (List ℕ)) → Mem b bs → 1 ≤ length bs
      some {b = b} [] k = elim k [ ]
      some (x ∷ bs) k = omega arith
