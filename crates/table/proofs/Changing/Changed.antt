-- A list with one record rewritten, `changed_bytes` of `specs/Changes.antt`: what its bytes, its records and its rows are.
--     changed-length, changed-records as long as l, and as many records
--     changed_bytes_lem                   bytes stay bytes
--     changed-same, changed_other     record i has the new score and its cluster; every other is as it was
--     changed-cluster                 no cluster changes
--     changed-accepted                an accepted list stays accepted
--     changed-rows                    its rows are those of l, with the new score in the row of that cluster
-- Assumes nothing.
use mathlib.Core.Path.{◌≡◌, refl, sym, ap, ap₂, ◌∙◌, subst}
use mathlib.Core.Logic.{◌≢◌}
use mathlib.Core.Bool.{Bool, true, false, cond, not}
use mathlib.Core.List.{List, [], ◌∷◌, ◌++◌, map}
use Prim.Native.Nat.{ℕ, zero, suc, ◌+◌, ◌*◌, ◌/◌, ◌%◌, ◌≤◌, ◌<◌}
use native.Mathlib.Decide.{dec_lt, ℕ_discrete}
use native.Mathlib.Nat.{div-add-mod, mul_comm, mul-le-mul_right, suc-mul}
use native.Mathlib.Omega.{arith}
use borrow.Author.Tests.{eq-eqb, ne_eqb}
use lib.Dec.{T, eqb, ltb}
use lib.IntN.{ℤ}
use lib.ListN.{length, take, drop}
use Rattle.laws.specs.Limits.{Width}
use Rattle.laws.specs.Row.{Row}
use Rattle.laws.specs.Widths.{WidthFacts}
use Rattle.laws.proofs.State.{state-le}
use Rattle.laws.proofs.Tests.{T_true}
use Rattle.std.specs.Prelude.{Option}
use Rattle.cluster.specs.declared.rule.Rule.{Rule}
use Rattle.cluster.specs.Reading.{rule_of}
use Rattle.cluster.specs.Record.{row_of, has_spare, bytes_of}
use Rattle.cluster.specs.Rule.{broken_rule, is_kept, is_score, keeps_rules, Keeps}
use Rattle.cluster.proofs.Laws.Record.{bytes_of-length, row_of-bytes, bytes_of_rule}
use Rattle.cluster.proofs.Laws.Rule.{score→keeps, keeps→kept, →rules}
use Rattle.lists.specs.Accepted.{Bytes, KeepsAt, Accepted}
use Rattle.lists.specs.Records.{records_in, bytes_at, listed_at, rows_of}
use Rattle.lists.specs.Rows.{insert_row, rows_to}
use Rattle.lists.proofs.Laws.Bytes.{append-bytes, take-bytes, drop-bytes, row-bytes}
use Rattle.lists.proofs.Laws.Records.{keeps_iff, cluster-small}
use Rattle.trees.specs.Rescored.{put_score}
use Rattle.trees.proofs.Rescore.{put-cluster}
use Rattle.table.specs.Changes.{changed_row, changed_bytes}
use Rattle.table.proofs.Changing.Rewritten.{put-length, put_same, put-before, put_after}

-- ---- a record rewritten

-- records don't overlap
part_le : (k i n : ℕ) → i < n → i * k + k ≤ n * k
part_le k i n h = omega (arith, mul-le-mul_right k h, suc-mul i k)

module _ {W : Width} (facts : WidthFacts W) (l : List ℕ) (byte : Bytes l) (i : ℕ) (z : ℤ) (s : ℕ) (within : i < records_in W l)
    (score : T (is_score z s)) where
  abbrev changed : List ℕ
  changed = changed_bytes W l i z s

  abbrev new : Row
  new = changed_row (listed_at W l i) z s

  abbrev size : ℕ
  size = W.record_bytes

  long : length (bytes_of W new) ≡ size
  long = bytes_of-length W new ∙ sym facts.spare

  room : i * size + size ≤ length l
  room =
      omega (arith, part_le size i (records_in W l) within, div-add-mod (length l) size, mul_comm (records_in W l) size)

  pub changed-length : length (changed_bytes W l i z s) ≡ length l
  changed-length = put-length l (bytes_of W new) (i * size) size long room

  pub changed-records : records_in W (changed_bytes W l i z s) ≡ records_in W l
  changed-records = ap (λ (n : ℕ). n / size) changed-length

  pub changed_bytes_lem : Bytes (changed_bytes W l i z s)
  changed_bytes_lem =
      append-bytes (take (i * size) l ++ bytes_of W new) (drop (i * size + size) l)
      (append-bytes (take (i * size) l) (bytes_of W new) (take-bytes (i * size) l byte)
      (row-bytes W new (omega (arith, state-le s (score→keeps z s score).has_state))))
      (drop-bytes (i * size + size) l byte)

  bytes_same : bytes_at W changed i ≡ bytes_of W new
  bytes_same = put_same l (bytes_of W new) (i * size) size long room

  bytes_other : (j : ℕ) → j ≢ i → bytes_at W changed j ≡ bytes_at W l j
  bytes_other j n = go (dec_lt j i)
    where
      go : Dec (j < i) → bytes_at W changed j ≡ bytes_at W l j
      go (yes h) = put-before l (bytes_of W new) (i * size) size long room (j * size) (part_le size j i h)
      go (no h) = put_after l (bytes_of W new) (i * size) size long room (j * size) (part_le size i j (omega (arith, n)))

  pub changed_other : (j : ℕ) → j ≢ i → listed_at W (changed_bytes W l i z s) j ≡ listed_at W l j
  changed_other j n = ap (row_of W) (bytes_other j n)

  module _ (kept : KeepsAt W l i) where
    new_keeps : Keeps new.cluster z s false
    new_keeps = record { has_taxon_lem = kept.has_taxon_lem; no_spare = refl; score = score→keeps z s score }

    new_rules : T (keeps_rules W new)
    new_rules = →rules W new (cluster-small W l facts byte i) new_keeps

    pub changed-same : listed_at W (changed_bytes W l i z s) i ≡ changed_row (listed_at W l i) z s
    changed-same = ap (row_of W) bytes_same ∙ row_of-bytes W new facts new_rules

    pub changed-cluster : (j : ℕ) → (listed_at W (changed_bytes W l i z s) j).cluster ≡ (listed_at W l j).cluster
    changed-cluster j = go (ℕ_discrete j i)
      where
        go : Dec (j ≡ i) → (listed_at W changed j).cluster ≡ (listed_at W l j).cluster
        go (yes e) = rw e (ap (λ (r : Row). r.cluster) changed-same)
        go (no n) = ap (λ (r : Row). r.cluster) (changed_other j n)

    keeps_same : KeepsAt W changed i
    keeps_same = (keeps_iff W changed i).0
        (ap (λ (b : List ℕ). not (is_kept (rule_of W b))) bytes_same
        ∙ ap (λ (u : Option Rule). not (is_kept u)) (bytes_of_rule W new facts new_rules)
        ∙ ap not (T_true (is_kept (broken_rule new.cluster z s false)) (keeps→kept new.cluster z s false new_keeps)))

    keeps_changed : (j : ℕ) → KeepsAt W l j → KeepsAt W changed j
    keeps_changed j k = go (ℕ_discrete j i)
      where
        go : Dec (j ≡ i) → KeepsAt W changed j
        go (yes e) = subst (KeepsAt W changed) (sym e) keeps_same
        go (no n) =
            subst (λ (b : List ℕ). let r = row_of W b in Keeps r.cluster r.weight r.state (has_spare W b)) (sym (bytes_other j n)) k

-- ---- the rows of a list

module _ (c : ℕ) (z : ℤ) (s : ℕ) where
  put_insert : (r : Row) (qs : List Row) → insert_row (put_score c z s r) (map (put_score c z s) qs) ≡ map (put_score c z s) (insert_row r qs)
  put_insert r [] = refl
  put_insert r (q ∷ qs) =
      ap₂ (λ (a b : ℕ). at (ltb a b)) (put-cluster c z s q) (put-cluster c z s r) ∙ go (ltb q.cluster r.cluster) (put_insert r qs)
    where
      at : Bool → List Row
      at b = cond b (put_score c z s r ∷ put_score c z s q ∷ map (put_score c z s) qs)
          (put_score c z s q ∷ insert_row (put_score c z s r) (map (put_score c z s) qs))

      go : (b : Bool) → insert_row (put_score c z s r) (map (put_score c z s) qs) ≡ map (put_score c z s) (insert_row r qs)
          → at b ≡ map (put_score c z s) (cond b (r ∷ q ∷ qs) (q ∷ insert_row r qs))
      go true e = refl
      go false e = ap (λ (rs : List Row). put_score c z s q ∷ rs) e

  rows-put : (row new : ℕ → Row) (n : ℕ) → ((j : ℕ) → j < n → new j ≡ put_score c z s (row j))
      → rows_to new n ≡ map (put_score c z s) (rows_to row n)
  rows-put row new zero h = refl
  rows-put row new (suc n) h =
      ap₂ insert_row (h n (omega arith)) (rows-put row new n (λ j k. h j (omega arith))) ∙ put_insert (row n) (rows_to row n)

-- ---- an accepted list

module _ {W : Width} (facts : WidthFacts W) {l : List ℕ} (byte : Bytes l) (a : Accepted W l) (i : ℕ) (z : ℤ) (s : ℕ)
    (within : i < records_in W l) (score : T (is_score z s)) where
  abbrev after : List ℕ
  after = changed_bytes W l i z s

  same_length : length after ≡ length l
  same_length = changed-length facts l byte i z s within score

  same-records : records_in W after ≡ records_in W l
  same-records = changed-records facts l byte i z s within score

  pub changed-accepted : Accepted W (changed_bytes W l i z s)
  changed-accepted = record {
    filled = λ e. a.filled (sym same_length ∙ e);
    short = rw same_length a.short;
    whole = ap (λ (n : ℕ). n % W.record_bytes) same_length ∙ a.whole;
    kept = λ j h. keeps_changed facts l byte i z s within score (a.kept i within) j (a.kept j (omega (arith, same-records)));
    once = λ j h r. a.once j (omega (arith, same-records)) (r.0, r.1, sym (same-cluster j) ∙ r.2 ∙ same-cluster r.0);
  }
    where
      same-cluster : (j : ℕ) → (listed_at W after j).cluster ≡ (listed_at W l j).cluster
      same-cluster = changed-cluster facts l byte i z s within score (a.kept i within)

  -- no other record has the cluster
  other_cluster : (j : ℕ) → j < records_in W l → j ≢ i → (listed_at W l j).cluster ≢ (listed_at W l i).cluster
  other_cluster j h n e = go (dec_lt j i)
    where
      go : Dec (j < i) → ⊥
      go (yes k) = a.once i within (j, k, sym e)
      go (no k) = a.once j h (i, omega (arith, n), e)

  row_put : (j : ℕ) → j < records_in W l → listed_at W after j ≡ put_score (listed_at W l i).cluster z s (listed_at W l j)
  row_put j h = go (ℕ_discrete j i)
    where
      put : Bool → Row
      put b = cond b (changed_row (listed_at W l j) z s) (listed_at W l j)

      go : Dec (j ≡ i) → listed_at W after j ≡ put (eqb (listed_at W l j).cluster (listed_at W l i).cluster)
      go (yes e) =
          ap (listed_at W after) e
          ∙ changed-same facts l byte i z s within score (a.kept i within)
          ∙ ap (λ (k : ℕ). changed_row (listed_at W l k) z s) (sym e)
          ∙ ap put (sym (eq-eqb _ _ (ap (λ (k : ℕ). (listed_at W l k).cluster) e)))
      go (no n) = changed_other facts l byte i z s within score j n ∙ ap put (sym (ne_eqb _ _ (other_cluster j h n)))

  pub changed-rows : rows_of W (changed_bytes W l i z s) ≡ map (put_score (listed_at W l i).cluster z s) (rows_of W l)
  changed-rows =
      ap (rows_to (listed_at W after)) same-records
      ∙ rows-put (listed_at W l i).cluster z s (listed_at W l) (listed_at W after) (records_in W l) row_put
