-- Rows written one after the other, `bytes_of_rows` of `specs/Accepted.antt`: what the bytes, the records and the rows of that list are.
--     written-length, written-records     how many bytes, and how many records
--     written_down             the records are the rows, the last record first
--     written-bytes            they are bytes
--     written-rows             the rows of the list are these
--     written-accepted         the list is taken
-- Assumes nothing.
use mathlib.Core.Path.{◌≡◌, refl, sym, ap, ap₂, ◌∙◌, subst}
use mathlib.Core.Bool.{false}
use mathlib.Core.List.Memᴰ
use mathlib.Core.List.{List, [], ◌∷◌, map, map-map}
use mathlib.Core.List.Memᴰ.{head as here}
use mathlib.Core.List.Memᴰ.{tail as there}
use mathlib.Core.List.{Memᴰ as Mem}
use Prim.Native.Nat.{ℕ, ◌*◌, ◌≤◌, ◌<◌}
use native.Mathlib.Nat.{mul-le-mul_right}
use native.Mathlib.Omega.{arith}
use lib.Dec.{T}
use lib.ListN.{length, length-map}
use Rattle.laws.specs.Limits.{Width}
use Rattle.laws.specs.Lists.{Once}
use Rattle.laws.specs.Orders.{Falling, down_to}
use Rattle.laws.specs.Row.{Row}
use Rattle.laws.specs.Widths.{WidthFacts}
use Rattle.laws.proofs.Down.{down_map, falling_down}
use Rattle.laws.proofs.Falling.{falling_once}
use Rattle.laws.proofs.State.{state-le}
use Rattle.cluster.specs.Reading.{KeepsBytes}
use Rattle.cluster.specs.Record.{row_of, bytes_of, has_spare}
use Rattle.cluster.specs.Rule.{is_kept, keeps_rules}
use Rattle.cluster.proofs.Laws.Record.{bytes_of-length, bytes_of_rule, row_of-bytes}
use Rattle.cluster.proofs.Laws.Rule.{kept→keeps, keeps→kept, rules→}
use Rattle.trees.specs.Rows.{clusters_of}
use Rattle.lists.specs.Records.{records_in, bytes_at, listed_at, rows_of}
use Rattle.lists.specs.Rows.{rows_to}
use Rattle.lists.specs.ListFrom.{cluster_in}
use Rattle.lists.specs.Accepted.{Bytes, Accepted, bytes_of_rows}
use Rattle.lists.proofs.Laws.Bytes.{row-bytes}
use Rattle.lists.proofs.Laws.ListFrom.{Sized, from-length, from-records, from_down, from_bytes, from-accepted}
use Rattle.lists.proofs.Laws.Rows.{rows_ascend}

module _ (W : Width) (facts : WidthFacts W) where
  -- ---- the bytes of each row are those of a record
  module _ (rs : List Row) where
    abbrev each : List (List ℕ)
    each = map (bytes_of W) rs

    as_many : length each ≡ length rs
    as_many = length-map rs (bytes_of W)

    each-sized : Sized W each
    each-sized b m = let q = Memᴰ.of_map (bytes_of W) rs m in ap length (sym q.2) ∙ bytes_of-length W q.0 ∙ sym facts.spare

    pub written-length : length (bytes_of_rows W rs) ≡ length rs * W.record_bytes
    written-length = from-length W each each-sized ∙ ap (λ (n : ℕ). n * W.record_bytes) as_many

    pub written-records : records_in W (bytes_of_rows W rs) ≡ length rs
    written-records = from-records W facts each each-sized ∙ as_many

  read_back : (rs : List Row) → ((r : Row) → Mem r rs → T (keeps_rules W r)) → map (row_of W) (map (bytes_of W) rs) ≡ rs
  read_back [] h = refl
  read_back (r ∷ rs) h =
      ap₂ (λ (x : Row) (xs : List Row). x ∷ xs) (row_of-bytes W r facts (h r (here refl))) (read_back rs (λ x m. h x (there m)))

  module _ (rs : List Row) (rules : (r : Row) → Mem r rs → T (keeps_rules W r)) where
    pub written_down : down_to (listed_at W (bytes_of_rows W rs)) (length rs) ≡ rs
    written_down =
        sym (down_map (row_of W) (bytes_at W (bytes_of_rows W rs)) (length rs))
        ∙ ap (λ (n : ℕ). map (row_of W) (down_to (bytes_at W (bytes_of_rows W rs)) n)) (sym (as_many rs))
        ∙ ap (map (row_of W)) (from_down W (each rs) (each-sized rs))
        ∙ read_back rs rules

    pub written-bytes : Bytes (bytes_of_rows W rs)
    written-bytes = from_bytes (each rs) byte
      where
        byte : (b : List ℕ) → Mem b (each rs) → Bytes b
        byte b m =
            let q = Memᴰ.of_map (bytes_of W) rs m in
            let k = (rules→ W q.0 (rules q.0 q.1)).1 in
            subst Bytes q.2 (row-bytes W q.0 (omega (arith, state-le q.0.state k.score.has_state)))

  -- the bytes of a row that keeps the rules
  keeps_row : (r : Row) → T (keeps_rules W r) → KeepsBytes W (bytes_of W r)
  keeps_row r h =
      let b = bytes_of W r in
      kept→keeps (row_of W b).cluster (row_of W b).weight (row_of W b).state (has_spare W b)
      (subst T (sym (ap is_kept (bytes_of_rule W r facts h)))
      (keeps→kept r.cluster r.weight r.state false (rules→ W r h).1))

  -- ---- the list of rows in order that keep the rules
  module _ (rs : List Row) (falls : Falling (clusters_of rs)) (rules : (r : Row) → Mem r rs → T (keeps_rules W r)) where
    abbrev l : List ℕ
    l = bytes_of_rows W rs

    ascends : (j k : ℕ) → j < k → k < length rs → (listed_at W l j).cluster < (listed_at W l k).cluster
    ascends = falling_down (λ (j : ℕ). (listed_at W l j).cluster) (length rs) (subst Falling (sym same) falls)
      where
        same : down_to (λ (j : ℕ). (listed_at W l j).cluster) (length rs) ≡ clusters_of rs
        same = sym (down_map (λ (r : Row). r.cluster) (listed_at W l) (length rs)) ∙ ap clusters_of (written_down rs rules)

    pub written-rows : rows_of W (bytes_of_rows W rs) ≡ rs
    written-rows =
        ap (rows_to (listed_at W l)) (written-records rs)
        ∙ rows_ascend (listed_at W l) (length rs) ascends
        ∙ written_down rs rules

    each_keeps : (b : List ℕ) → Mem b (each rs) → KeepsBytes W b
    each_keeps b m =
        let q = Memᴰ.of_map (bytes_of W) rs m in
        subst (KeepsBytes W) q.2 (keeps_row q.0 (rules q.0 q.1))

    each-once : Once (map (cluster_in W) (each rs))
    each-once = subst Once (sym same) (falling_once (clusters_of rs) falls)
      where
        same : map (cluster_in W) (each rs) ≡ clusters_of rs
        same = sym (map-map (λ (r : Row). r.cluster) (row_of W) (each rs)) ∙ ap clusters_of (read_back rs rules)

    pub written-accepted : 1 ≤ length rs → length rs ≤ W.rows → Accepted W (bytes_of_rows W rs)
    written-accepted some few =
        from-accepted W facts (each rs) (each-sized rs) (rw (as_many rs) some)
        (rw (as_many rs, facts.whole) (mul-le-mul_right W.record_bytes few)) each_keeps each-once
