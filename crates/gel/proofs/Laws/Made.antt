-- The list that is made of a sheet: its rows are in order, keep the record rules, and are those of the keys.
--     Sized s                   what is asked of a sheet for this: its lines are 1 to 32, of 128 marks at most
--     sized_of                  a sheet without faults is such
--     scores_few                no more columns than that are counted
--     made_cluster              a cluster of the list has a taxon, and none past 31
--     made_clusters, made_falls, made_length     the clusters of the rows, in order, and how many
--     made_rules, made_some     the rows keep the record rules, and there is one
--     tally_length, tally_rows, tally_keys     the keys of a sheet are those of its rows, and can be written
-- Assumes nothing.
use mathlib.Core.Path.{◌≡◌, refl, sym, ap, ap₂, ◌∙◌, subst}
use mathlib.Core.Logic.{◌≢◌, ◌⊎◌, inl, inr}
use mathlib.Core.Bool.{not}
use mathlib.Core.List.Memᴰ
use mathlib.Core.List.{List, [], ◌∷◌, ◌++◌, map, map-id}
use mathlib.Core.List.Memᴰ.{head as here}
use mathlib.Core.List.Memᴰ.{tail as there}
use mathlib.Core.List.{Memᴰ as Mem}
use Prim.Native.Nat.{ℕ, ◌^◌, ◌≤◌, ◌<◌}
use native.Mathlib.Decide.{dec_le}
use native.Mathlib.Omega.{arith}
use lib.Dec.{T, eqb}
use lib.IntN.{pos}
use lib.ListN.{length, length-map}
use lib.Pow.{pow_mono, pow_pos, pow-lt}
use Rattle.laws.specs.Limits.{narrow}
use Rattle.laws.specs.Lists.{keep}
use Rattle.laws.specs.Orders.{Falling}
use Rattle.laws.specs.Row.{Row}
use Rattle.laws.proofs.Appended.{map-through}
use Rattle.laws.proofs.Down.{down_length, down_map, down_mem, mem_down}
use Rattle.laws.proofs.Keep.{mem_of_keep}
use Rattle.laws.proofs.Taxa.{mem-taxa}
use Rattle.laws.proofs.Tests.{neq→}
use Rattle.trees.specs.Rows.{clusters_of}
use Rattle.cluster.specs.Rule.{keeps_rules}
use Rattle.gel.specs.declared.tally.Tally.{Tally}
use Rattle.gel.specs.Lines.{line_max, width_max, line_count, width_of}
use Rattle.gel.specs.Columns.{is_unread, cluster_of, all_of, all_lines, mark_at, column_at, columns_of}
use Rattle.gel.specs.Columns.{scores_of, sheet_clusters, row_of_cluster, sheet_rows}
use Rattle.gel.specs.Form.{Formed}
use Rattle.gel.specs.Tally.{key_unit, key_at, key_for, TallyIs, Key, Keys, row_of_key, rows_of_keys}
use Rattle.gel.proofs.Laws.Columns.{cluster-lt}
use Rattle.gel.proofs.Laws.Counted.{count-le, key_cluster, key_count}
use Rattle.gel.proofs.Laws.Gathered.{mem-gathered, mem_of_gathered, gathered-falls}
use Rattle.gel.proofs.Laws.Tallied.{scores_length-le}
use Rattle.gel.proofs.Laws.Writing.{row_of_key-rules}

pub record Sized (s : List ℕ) : Type 0 where
  pub some : 1 ≤ line_count s
  pub most : line_count s ≤ line_max
  pub narrow : width_of s ≤ width_max

pub sized_of : (s : List ℕ) (n w : ℕ) → Formed s n w → Sized s
sized_of s n w f = record {
  some = omega (arith, f.lines, f.some);
  most = omega (arith, f.lines, f.most);
  narrow = omega (arith, f.width, f.narrow);
}

module _ (s : List ℕ) (z : Sized s) where
  -- ---- the clusters
  pub scores_few : length (scores_of s) ≤ width_max
  scores_few = omega (arith, scores_length-le (columns_of s), down_length (column_at s) (width_of s), z.narrow)

  some-score : (c : ℕ) → Mem c (scores_of s) → (1 ≤ c) × (c < 2 ^ line_max)
  some-score c m =
      let read = keep (λ (x : List ℕ). not (is_unread x)) (columns_of s) in
      let q = mem_of_keep (λ (k : ℕ). not (eqb k 0)) (map cluster_of read) m in
      let x = Memᴰ.of_map cluster_of read q.0 in
      let j = mem_down (column_at s) (width_of s) x.0 (mem_of_keep (λ (y : List ℕ). not (is_unread y)) (columns_of s) x.1).0 in
      (positive (neq→ c 0 q.1), small x.0 j.0 j.2 x.2)
    where
      positive : c ≢ 0 → 1 ≤ c
      positive n = go (dec_le 1 c)
        where
          go : Dec (1 ≤ c) → 1 ≤ c
          go (yes h) = h
          go (no h) = absurd (n (omega (arith, h)))

      small : (x : List ℕ) (j : ℕ) → x ≡ column_at s j → cluster_of x ≡ c → c < 2 ^ line_max
      small x j e f =
          let long : length x ≡ line_count s = ap length e ∙ down_length (λ (i : ℕ). mark_at s i j) (line_count s) in
          omega (arith, f, cluster-lt x, ap (λ (k : ℕ). 2 ^ k) long, pow_mono {i = line_count s} {j = line_max} z.most)

  some-line : (c : ℕ) → Mem c (all_lines (line_count s)) → (1 ≤ c) × (c < 2 ^ line_max)
  some-line c (here e) =
      let low = pow_mono {i = 1} {j = line_count s} z.some in
      let high = pow_mono {i = line_count s} {j = line_max} z.most in
      (omega (arith, e, low), omega (arith, e, low, high))
  some-line c (there m) =
      let q = mem-taxa (line_count s) c m in
      (rw q.2 (pow_pos q.0), rw q.2 (pow-lt {j = line_max} (omega (arith, q.1, z.most))))

  pub made_cluster : (c : ℕ) → Mem c (sheet_clusters s) → (1 ≤ c) × (c < 2 ^ line_max)
  made_cluster c m = go (Memᴰ.append_cases (scores_of s) (mem_of_gathered (scores_of s ++ all_lines (line_count s)) m))
    where
      go : Mem c (scores_of s) ⊎ Mem c (all_lines (line_count s)) → (1 ≤ c) × (c < 2 ^ line_max)
      go (inl k) = some-score c k
      go (inr k) = some-line c k

  -- ---- the keys
  key_few : length (scores_of s) < key_unit
  key_few = omega (arith, scores_few)

  key_of : (c : ℕ) → Mem c (sheet_clusters s) → Key (key_for (scores_of s) c)
  key_of c m =
      let q = made_cluster c m in
      record { some = omega (arith, q.0); most = omega (arith, q.1, count-le (scores_of s) c, scores_few) }

  row_of_key_lem : (c : ℕ) → row_of_key (key_for (scores_of s) c) ≡ row_of_cluster s c
  row_of_key_lem c =
      ap₂ (λ (a b : ℕ). record { cluster = a; weight = pos b; state = 1 }) (key_cluster (scores_of s) key_few c)
      (key_count (scores_of s) key_few c)

  -- ---- the rows
  pub made_rules : (r : Row) → Mem r (sheet_rows s) → T (keeps_rules narrow r)
  made_rules r m =
      let q = Memᴰ.of_map (row_of_cluster s) (sheet_clusters s) m in
      subst (λ (x : Row). T (keeps_rules narrow x)) (row_of_key_lem q.0 ∙ q.2)
      (row_of_key-rules (key_for (scores_of s) q.0) (key_of q.0 q.1))

  pub made_clusters : clusters_of (sheet_rows s) ≡ sheet_clusters s
  made_clusters =
      map-through (row_of_cluster s) (λ (r : Row). r.cluster) (λ (c : ℕ). c) (λ c. refl) (sheet_clusters s) ∙ map-id (sheet_clusters s)

  pub made_falls : Falling (clusters_of (sheet_rows s))
  made_falls = subst Falling (sym made_clusters) (gathered-falls (scores_of s ++ all_lines (line_count s)))

  pub made_length : length (sheet_rows s) ≡ length (sheet_clusters s)
  made_length = length-map (sheet_clusters s) (row_of_cluster s)

  pub made_some : 1 ≤ length (sheet_rows s)
  made_some =
      some (sheet_rows s)
      (Memᴰ.map (row_of_cluster s)
      (mem-gathered (scores_of s ++ all_lines (line_count s)) (Memᴰ.append_right (scores_of s) (here {x = all_of (line_count s)} refl))))
    where
      some : (l : List Row) {r : Row} → Mem r l → 1 ≤ length l
      some [] {r = r} m = elim m [ ]
      some (r ∷ l) m = omega arith

  -- ---- the tally of the sheet
  module _ (t : Tally) (a : TallyIs s t) where
    pub tally_length : length t.keys.items ≡ length (sheet_rows s)
    tally_length =
        sym (down_length (key_at t.keys.items) (length t.keys.items))
        ∙ ap length a.keys
        ∙ length-map (sheet_clusters s) (key_for (scores_of s))
        ∙ sym made_length

    pub tally_rows : rows_of_keys t.keys.items ≡ sheet_rows s
    tally_rows =
        sym (down_map row_of_key (key_at t.keys.items) (length t.keys.items))
        ∙ ap (map row_of_key) a.keys
        ∙ map-through (key_for (scores_of s)) row_of_key (row_of_cluster s) row_of_key_lem (sheet_clusters s)

    pub tally_keys : Keys t.keys.items
    tally_keys = record {
      each = λ i h.
          let q = Memᴰ.of_map (key_for (scores_of s)) (sheet_clusters s)
          (subst (Mem (key_at t.keys.items i)) a.keys (down_mem (key_at t.keys.items) (length t.keys.items) i h)) in
          subst Key q.2 (key_of q.0 q.1);
    }
