-- The list that is made of a gel sheet, in words (RULES 13).
--     cluster_iff, counted-clusters     its clusters are those of columns, of each line and of all lines; so many records are they
--     row_iff             its rows are these, with the number of their columns, scored
--     counted-columns, counted-unread (Laws/Numbered.antt)     these numbers, in words
--     made_back, made_bytes, made_accepted     its rows are read back, it is bytes, and it is accepted
--     made_records, made_ascends     how many records, which ascend
--     made_leaves         its leaf set is the set of all lines
-- Assumes nothing.
use mathlib.Core.Path.{◌≡◌, refl, sym, ap, ap₂, ◌∙◌, subst}
use mathlib.Core.Logic.{◌⊎◌, inl, inr, ◌↔◌}
use mathlib.Core.Bool.{Bool, not}
use mathlib.Core.List.Memᴰ
use mathlib.Core.List.{List, ◌++◌, map}
use mathlib.Core.List.Memᴰ.{head as here}
use mathlib.Core.List.Memᴰ.{tail as there}
use mathlib.Core.List.{Memᴰ as Mem}
use Prim.Native.Nat.{ℕ, ◌^◌, ◌≤◌, ◌<◌}
use native.Mathlib.Omega.{arith}
use lib.Dec.{T, eqb, T_not, not_T}
use lib.IntN.{ℤ, pos}
use lib.ListN.{length, length-map}
use Rattle.laws.specs.Cluster.{inside, taxa, union_of}
use Rattle.laws.specs.Limits.{narrow}
use Rattle.laws.specs.Lists.{keep}
use Rattle.laws.specs.Orders.{Falling, down_to}
use Rattle.laws.specs.Row.{Row, is_scored}
use Rattle.laws.specs.State.{scored_state}
use Rattle.laws.proofs.Cluster.{→inside, inside_of_has, has_of_inside, inside_antisym, inside-union_of, union_of-inside}
use Rattle.laws.proofs.Digits.{pow_has}
use Rattle.laws.proofs.Down.{mem_down, down_mem, down_map, falling_down}
use Rattle.laws.proofs.Keep.{mem-keep, mem_of_keep, keep_all}
use Rattle.laws.proofs.Falling.{falling_once}
use Rattle.laws.proofs.State.{scored_state_lem, scored_is}
use Rattle.laws.proofs.Taxa.{taxa-mem, mem-taxa}
use Rattle.laws.proofs.Tests.{neq→, →neq}
use Rattle.laws.proofs.Width.{narrow_facts}
use Rattle.trees.specs.Rows.{clusters_of, leaves}
use Rattle.lists.specs.Records.{records_in, listed_at, rows_of}
use Rattle.lists.specs.Accepted.{Bytes, Accepted}
use Rattle.lists.proofs.Laws.Written.{written-records, written_down, written-bytes, written-rows, written-accepted}
use Rattle.gel.specs.Lines.{line_count, width_of}
use Rattle.gel.specs.Columns.{is_unread, cluster_of, all_of, all_lines, column_at, columns_of, scores_of}
use Rattle.gel.specs.Columns.{sheet_clusters, columns_with, row_of_cluster, sheet_rows, sheet_bytes}
use Rattle.gel.specs.Facts.{OnesOf, GivenBy, IsGiven, OneLine, AreLines, SheetCluster, SheetRow, Numbered}
use Rattle.gel.proofs.Laws.Gathered.{mem-gathered, mem_of_gathered, gathered-falls}
use Rattle.gel.proofs.Laws.Made.{Sized, made_rules, made_clusters, made_falls, made_some}
use Rattle.gel.proofs.Laws.Ones.{ones_iff, ones-only, read_iff, all_iff, all-only}

module _ (s : List ℕ) where
  abbrev candidates : List ℕ
  candidates = scores_of s ++ all_lines (line_count s)

  -- the columns without ?, and their clusters
  abbrev is_read : List ℕ → Bool
  is_read x = not (is_unread x)

  score→given : (c : ℕ) → Mem c (scores_of s) → IsGiven s c
  score→given c m =
      let read = keep is_read (columns_of s) in
      let q = mem_of_keep (λ (k : ℕ). not (eqb k 0)) (map cluster_of read) m in
      let x = Memᴰ.of_map cluster_of read q.0 in
      let r = mem_of_keep is_read (columns_of s) x.1 in
      let j = mem_down (column_at s) (width_of s) x.0 r.0 in
      (neq→ c 0 q.1, j.0, given j.0 j.1 x.0 j.2 r.1 x.2)
    where
      given : (j : ℕ) → j < width_of s → (x : List ℕ) → x ≡ column_at s j → T (is_read x) → cluster_of x ≡ c → GivenBy s j c
      given j h x e r f = record {
        within = h;
        read = (read_iff s j).0 (subst (λ (y : List ℕ). T (is_unread y) → ⊥) e (T_not (is_unread x) r));
        ones = subst (OnesOf s j) (ap cluster_of (sym e) ∙ f) (ones_iff s j);
      }

  given→score : (c : ℕ) → IsGiven s c → Mem c (scores_of s)
  given→score c k =
      let j = k.1 in
      let g = k.2 in
      let read = keep is_read (columns_of s) in
      let column = mem-keep is_read (columns_of s) (down_mem (column_at s) (width_of s) j g.within)
      (not_T (is_unread (column_at s j)) ((read_iff s j).1 g.read)) in
      mem-keep (λ (n : ℕ). not (eqb n 0)) (map cluster_of read)
      (subst (λ (n : ℕ). Mem n (map cluster_of read)) (sym (ones-only s j c g.ones)) (Memᴰ.map cluster_of column)) (→neq c 0 k.0)

  pub cluster_iff : (c : ℕ) → Mem c (sheet_clusters s) ↔ SheetCluster s c
  cluster_iff c = (λ m. to (Memᴰ.append_cases (scores_of s) (mem_of_gathered candidates m)), λ k. mem-gathered candidates (from k))
    where
      line : Mem c (all_lines (line_count s)) → OneLine s c ⊎ AreLines s c
      line (here e) = inr (subst (AreLines s) (sym e) (all_iff s))
      line (there m) = let q = mem-taxa (line_count s) c m in inl q

      to : Mem c (scores_of s) ⊎ Mem c (all_lines (line_count s)) → SheetCluster s c
      to (inl m) = inl (score→given c m)
      to (inr m) = inr (line m)

      from : SheetCluster s c → Mem c candidates
      from (inl k) = Memᴰ.append_left (all_lines (line_count s)) (given→score c k)
      from (inr (inl q)) =
          Memᴰ.append_right (scores_of s)
          (there (subst (λ (x : ℕ). Mem x (taxa (line_count s))) (sym q.2) (taxa-mem (line_count s) q.0 q.1)))
      from (inr (inr a)) = Memᴰ.append_right (scores_of s) (here (all-only s c a))

  pub counted-clusters : Numbered (SheetCluster s) (length (sheet_rows s))
  counted-clusters = record {
    numbers = sheet_clusters s;
    once = falling_once (sheet_clusters s) (gathered-falls candidates);
    each = cluster_iff;
    many = length-map (sheet_clusters s) (row_of_cluster s);
  }

  pub row_iff : (r : Row) → Mem r (sheet_rows s) ↔ SheetRow s r
  row_iff r = (to, from)
    where
      to : Mem r (sheet_rows s) → SheetRow s r
      to m =
          let q = Memᴰ.of_map (row_of_cluster s) (sheet_clusters s) m in
          subst (SheetRow s) q.2 (record { cluster = (cluster_iff q.0).0 q.1; weight = refl; scored = scored_state_lem })

      from : SheetRow s r → Mem r (sheet_rows s)
      from k =
          subst (λ (x : Row). Mem x (sheet_rows s)) (same k.weight (scored_is r.state k.scored))
          (Memᴰ.map (row_of_cluster s) ((cluster_iff r.cluster).1 k.cluster))
        where
          same : r.weight ≡ pos (columns_with s r.cluster) → r.state ≡ scored_state → row_of_cluster s r.cluster ≡ r
          same w e = ap₂ (λ (z : ℤ) (n : ℕ). record { cluster = r.cluster; weight = z; state = n }) (sym w) (sym e)

  module _ (z : Sized s) where
    pub made_back : rows_of narrow (sheet_bytes s) ≡ sheet_rows s
    made_back = written-rows narrow narrow_facts (sheet_rows s) (made_falls s z) (made_rules s z)

    pub made_bytes : Bytes (sheet_bytes s)
    made_bytes = written-bytes narrow narrow_facts (sheet_rows s) (made_rules s z)

    pub made_accepted : length (sheet_rows s) ≤ narrow.rows → Accepted narrow (sheet_bytes s)
    made_accepted = written-accepted narrow narrow_facts (sheet_rows s) (made_falls s z) (made_rules s z) (made_some s z)

    pub made_records : records_in narrow (sheet_bytes s) ≡ length (sheet_rows s)
    made_records = written-records narrow narrow_facts (sheet_rows s)

    pub made_ascends : (i j : ℕ) → i < j → j < records_in narrow (sheet_bytes s)
        → (listed_at narrow (sheet_bytes s) i).cluster < (listed_at narrow (sheet_bytes s) j).cluster
    made_ascends i j h k =
        falling_down (λ (n : ℕ). (listed_at narrow (sheet_bytes s) n).cluster) (length (sheet_rows s))
        (subst Falling (sym same) (made_falls s z)) i j h (omega (arith, k, made_records))
      where
        same : down_to (λ (n : ℕ). (listed_at narrow (sheet_bytes s) n).cluster) (length (sheet_rows s)) ≡ clusters_of (sheet_rows s)
        same =
            sym (down_map (λ (r : Row). r.cluster) (listed_at narrow (sheet_bytes s)) (length (sheet_rows s)))
            ∙ ap clusters_of (written_down narrow narrow_facts (sheet_rows s) (made_rules s z))

    -- every row is scored; every cluster lies inside that of all lines, which is one of them
    pub made_leaves : leaves (sheet_rows s) ≡ all_of (line_count s)
    made_leaves =
        ap (λ (rs : List Row). union_of (clusters_of rs)) (keep_all is_scored (sheet_rows s) (λ r m. ((row_iff r).0 m).scored))
        ∙ ap union_of (made_clusters s z)
        ∙ inside_antisym (union_of (sheet_clusters s)) (all_of (line_count s))
        (union_of-inside (sheet_clusters s) (all_of (line_count s)) (λ c m. within c ((cluster_iff c).0 m)))
        (inside-union_of (sheet_clusters s) (all_of (line_count s)) ((cluster_iff (all_of (line_count s))).1 (inr (inr (all_iff s)))))
      where
        lines : (c : ℕ) → ((i : ℕ) → T (inside (2 ^ i) c) → i < line_count s) → T (inside c (all_of (line_count s)))
        lines c f =
            →inside c (all_of (line_count s))
            (λ t h. has_of_inside t (all_of (line_count s)) ((all_iff s t).1 (f t (inside_of_has t c h))))

        within : (c : ℕ) → SheetCluster s c → T (inside c (all_of (line_count s)))
        within c (inl k) = lines c (λ i h. ((k.2.ones i).0 h).0)
        within c (inr (inl q)) =
            lines c
            (λ i h.
            let own = subst (λ (x : ℕ). T (inside (2 ^ i) x)) q.2 h in
            subst (λ (x : ℕ). x < line_count s) (sym (pow_has q.0 i (has_of_inside i (2 ^ q.0) own))) q.1)
        within c (inr (inr a)) = lines c (λ i h. (a i).0 h)
