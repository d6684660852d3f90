-- What the tests of a record say in words, and what is known of the rows of records that keep the rules and don't repeat.
--     keeps_iff, breaks_iff     a record keeps the rules, or breaks them
--     repeats_iff, new_iff      it has the cluster of an earlier record, or doesn't
--     row_iff, cluster_iff      the rows of a list are its records, and their clusters those of its records
--     record_bytes_lem              the bytes of a record are bytes
--     cluster-small             a cluster is within the width
--     row-rules, row_facts      rows of records that keep the rules and don't repeat
-- Assumes nothing.
use mathlib.Core.Path.{◌≡◌, refl, sym, ap, ◌∙◌, subst}
use mathlib.Core.Logic.{◌≢◌, ◌↔◌}
use mathlib.Core.Bool.{Bool, true, false, not, true≢false}
use mathlib.Core.List.{List}
use mathlib.Core.List.{Memᴰ as Mem}
use Prim.Native.Nat.{ℕ, ◌*◌, ◌^◌, ◌<◌}
use borrow.Author.Tests.{not-false}
use lib.Dec.{T}
use lib.ListN.{drop}
use Rattle.laws.specs.Limits.{Width}
use Rattle.laws.specs.Lists.{elem}
use Rattle.laws.specs.Row.{Row}
use Rattle.laws.specs.Widths.{WidthFacts}
use Rattle.laws.proofs.Down.{elem_down_iff}
use Rattle.laws.proofs.Tests.{T_true, T_false, true_T}
use Rattle.cluster.specs.Record.{has_spare}
use Rattle.cluster.specs.Reading.{rule_of}
use Rattle.cluster.specs.Rule.{is_kept, keeps_rules}
use Rattle.cluster.proofs.Laws.Bytes.{number_at-lt}
use Rattle.cluster.proofs.Laws.Record.{taxa-bytes}
use Rattle.cluster.proofs.Laws.Rule.{kept→keeps, keeps→kept, →rules}
use Rattle.trees.specs.Rows.{clusters_of, RowFacts}
use Rattle.lists.specs.Records.{records_in, bytes_at, listed_at, rows_of, breaks, repeats}
use Rattle.lists.specs.Accepted.{Bytes, KeepsAt, Repeats, HasCluster}
use Rattle.lists.proofs.Laws.Bytes.{take-bytes, drop-bytes}
use Rattle.lists.proofs.Laws.Rows.{rows-mem, rows_has, elem-rows, rows_fall}

-- ---- the tests of a record

module _ (W : Width) (l : List ℕ) (i : ℕ) where
  abbrev r : Row
  r = listed_at W l i

  abbrev kept : Bool
  kept = is_kept (rule_of W (bytes_at W l i))

  pub keeps_iff : (breaks W l i ≡ false) ↔ KeepsAt W l i
  keeps_iff = (
    λ e. kept→keeps r.cluster r.weight r.state (has_spare W (bytes_at W l i)) (true_T (not-false kept e)),
    λ k. ap not (T_true kept (keeps→kept r.cluster r.weight r.state (has_spare W (bytes_at W l i)) k)),
  )

  pub breaks_iff : (breaks W l i ≡ true) ↔ (KeepsAt W l i → ⊥)
  breaks_iff = (λ e k. true≢false (sym e ∙ keeps_iff.1 k), λ n. broken n (breaks W l i) refl)
    where
      broken : (KeepsAt W l i → ⊥) → (b : Bool) → breaks W l i ≡ b → b ≡ true
      broken n true e = refl
      broken n false e = absurd (n (keeps_iff.0 e))

  pub repeats_iff : (repeats W l i ≡ true) ↔ Repeats W l i
  repeats_iff =
      let by = elem_down_iff (λ (j : ℕ). (listed_at W l j).cluster) i r.cluster in
      (λ e. by.0 (true_T e), λ q. T_true (repeats W l i) (by.1 q))

  pub new_iff : (repeats W l i ≡ false) ↔ (Repeats W l i → ⊥)
  new_iff = (
    λ e q. true≢false (sym (repeats_iff.1 q) ∙ e),
    λ n. T_false (repeats W l i) (λ t. n (repeats_iff.0 (T_true (repeats W l i) t))),
  )

-- ---- the rows

module _ (W : Width) (l : List ℕ) where
  pub row_iff : (r : Row) → Mem r (rows_of W l) ↔ ((i : ℕ) × (i < records_in W l) × (r ≡ listed_at W l i))
  row_iff r = (
    rows-mem (listed_at W l) (records_in W l) r,
    λ q. subst (λ (x : Row). Mem x (rows_of W l)) (sym q.2) (rows_has (listed_at W l) (records_in W l) q.0 q.1),
  )

  pub cluster_iff : (c : ℕ) → T (elem c (clusters_of (rows_of W l))) ↔ HasCluster W l c
  cluster_iff c =
      let by = elem_down_iff (λ (j : ℕ). (listed_at W l j).cluster) (records_in W l) c in
      let same = elem-rows (listed_at W l) c (records_in W l) in
      (λ t. by.0 (subst T same t), λ q. subst T (sym same) (by.1 q))

  pub record_bytes_lem : Bytes l → (i : ℕ) → Bytes (bytes_at W l i)
  record_bytes_lem byte i = take-bytes W.record_bytes (drop (i * W.record_bytes) l) (drop-bytes (i * W.record_bytes) l byte)

  module _ (facts : WidthFacts W) (byte : Bytes l) where
    pub cluster-small : (i : ℕ) → (listed_at W l i).cluster < 2 ^ W.taxa
    cluster-small i = rw (taxa-bytes W facts) (number_at-lt (bytes_at W l i) (record_bytes_lem byte i) W.cluster_bytes 0)

    module _ (kept : (i : ℕ) → i < records_in W l → KeepsAt W l i) where
      rules_at : (i : ℕ) → i < records_in W l → T (keeps_rules W (listed_at W l i))
      rules_at i h =
          let k = kept i h in
          →rules W (listed_at W l i) (cluster-small i) (record { has_taxon_lem = k.has_taxon_lem; no_spare = refl; score = k.score })

      pub row-rules : (r : Row) → Mem r (rows_of W l) → T (keeps_rules W r)
      row-rules r m = let q = (row_iff r).0 m in subst (λ (x : Row). T (keeps_rules W x)) (sym q.2) (rules_at q.0 q.1)

      pub row_facts : ((i : ℕ) → i < records_in W l → Repeats W l i → ⊥) → RowFacts W.taxa (rows_of W l)
      row_facts once = record { falls = rows_fall (listed_at W l) (records_in W l) (λ i h. (new_iff W l i).1 (once i h)); fits = fits }
        where
          fits : (r : Row) → Mem r (rows_of W l) → (r.cluster ≢ 0) × (r.cluster < 2 ^ W.taxa)
          fits r m =
              let q = (row_iff r).0 m in
              let same = ap (λ (x : Row). x.cluster) q.2 in
              (λ e. (kept q.0 q.1).has_taxon_lem (sym same ∙ e), subst (λ (c : ℕ). c < 2 ^ W.taxa) (sym same) (cluster-small q.0))
