-- The records of a list as their bytes, the last record first: `records_down` of `specs/ListFrom.antt`.
--     records-sized           each has as many bytes as a record
--     records-bytes           they are bytes where the list is bytes
--     records-row_iff         the rows of the list are theirs
--     records-kept_iff        every record keeps the rules exactly where each of these does
--     records-once_iff        no record repeats an earlier one exactly where no cluster of theirs stands twice
-- Assumes nothing.
use mathlib.Core.Path.{◌≡◌, sym, ap, ◌∙◌, subst}
use mathlib.Core.Logic.{◌↔◌}
use mathlib.Core.List.{List, map}
use mathlib.Core.List.{Memᴰ as Mem}
use Prim.Native.Nat.{ℕ, ◌+◌, ◌*◌, ◌≤◌, ◌<◌}
use native.Mathlib.Nat.{div-add-mod, mul_comm, mul-le-mul_right, suc-mul}
use native.Mathlib.Omega.{arith}
use lib.ListN.{length, drop, length-drop}
use lib.Seq.{length-take-le}
use Rattle.laws.specs.Limits.{Width}
use Rattle.laws.specs.Lists.{Once}
use Rattle.laws.specs.Row.{Row}
use Rattle.laws.proofs.Down.{down_map, mem_down, down_mem}
use Rattle.laws.proofs.Places.{once→apart, apart→once}
use Rattle.cluster.specs.Reading.{KeepsBytes}
use Rattle.cluster.specs.Record.{row_of}
use Rattle.lists.specs.Records.{records_in, bytes_at, listed_at, rows_of}
use Rattle.lists.specs.ListFrom.{records_down, cluster_in}
use Rattle.lists.specs.Accepted.{Bytes, KeepsAt, Repeats}
use Rattle.lists.proofs.Laws.Records.{row_iff, record_bytes_lem}

-- ---- the records of a list

module _ (W : Width) (l : List ℕ) where
  abbrev size : ℕ
  size = W.record_bytes

  within : (i : ℕ) → i < records_in W l → i * size + size ≤ length l
  within i h =
      omega (arith, suc-mul i size, mul-le-mul_right size h, div-add-mod (length l) size, mul_comm (records_in W l) size)

  at_sized : (i : ℕ) → i < records_in W l → length (bytes_at W l i) ≡ size
  at_sized i h = length-take-le size (drop (i * size) l) (omega (arith, length-drop (i * size) l, within i h))

  -- what holds of the bytes at each place holds of each of them
  at_each : (P : List ℕ → Type 0) → ((i : ℕ) → i < records_in W l → P (bytes_at W l i)) → (b : List ℕ) → Mem b (records_down W l) → P b
  at_each P h b m = let q = mem_down (bytes_at W l) (records_in W l) b m in subst P (sym q.2) (h q.0 q.1)

  pub records-sized : (b : List ℕ) → Mem b (records_down W l) → length b ≡ W.record_bytes
  records-sized = at_each (λ (b : List ℕ). length b ≡ size) at_sized

  pub records-bytes : Bytes l → (b : List ℕ) → Mem b (records_down W l) → Bytes b
  records-bytes byte = at_each Bytes (λ i h. record_bytes_lem W l byte i)

  pub records-row_iff : (r : Row) → Mem r (rows_of W l) ↔ ((b : List ℕ) × Mem b (records_down W l) × (r ≡ row_of W b))
  records-row_iff r = (to, from)
    where
      to : Mem r (rows_of W l) → (b : List ℕ) × Mem b (records_down W l) × (r ≡ row_of W b)
      to m = let q = (row_iff W l r).0 m in (bytes_at W l q.0, down_mem (bytes_at W l) (records_in W l) q.0 q.1, q.2)

      from : (b : List ℕ) × Mem b (records_down W l) × (r ≡ row_of W b) → Mem r (rows_of W l)
      from q =
          let k = mem_down (bytes_at W l) (records_in W l) q.0 q.1 in
          (row_iff W l r).1 (k.0, k.1, q.2 ∙ ap (row_of W) k.2)

  pub records-kept_iff : ((i : ℕ) → i < records_in W l → KeepsAt W l i) ↔ ((b : List ℕ) → Mem b (records_down W l) → KeepsBytes W b)
  records-kept_iff = (at_each (KeepsBytes W), λ k i h. k (bytes_at W l i) (down_mem (bytes_at W l) (records_in W l) i h))

  pub records-once_iff : ((i : ℕ) → i < records_in W l → Repeats W l i → ⊥) ↔ Once (map (cluster_in W) (records_down W l))
  records-once_iff =
      let at : ℕ → ℕ = λ i. (listed_at W l i).cluster in
      let same = down_map (cluster_in W) (bytes_at W l) (records_in W l) in
      (λ h. subst Once (sym same) (apart→once at (records_in W l) h), λ o. once→apart at (records_in W l) (subst Once same o))
