-- A record and its bytes, there and back, over any width.
--     bytes_of-length, bytes_of_rule     how many bytes a row has, and the rule that they break is the row's
--     taxa-bytes         the clusters of a width are the numbers that their bytes hold
--     row_of-bytes        the row of the bytes of a row that keeps the rules is that row
--     bytes_of-row        the bytes of the row of a record's bytes are those bytes, where the spare ones are zero
--     record_of-bytes     the same of a narrow record
--     has_spare_is        the spare bytes by the word that starts with the state, as the code tests them
--     stored_is          three words stored are the bytes of the record, as the code writes them
-- Assumes nothing.
use mathlib.Core.Path.{◌≡◌, refl, sym, ap, ap₂, ◌∙◌, subst}
use mathlib.Core.Bool.{Bool, false, not}
use mathlib.Core.List.{List, ◌∷◌, ◌++◌, append_assoc}
use Prim.Native.Nat.{ℕ, zero, suc, ◌+◌, ◌*◌, ◌^◌, ◌≤◌, ◌<◌}
use native.Mathlib.Omega.{arith}
use borrow.Author.Tests.{le-leb, lt-leb, ne_eqb, eqb-true, not-false}
use lib.Dec.{T, eqb, leb}
use lib.ListN.{length, get_or, take, drop, length-drop, length-append, take-append-drop}
use lib.Seq.{sets, sets-eq, take-add, take_all, drop-cons}
use mir.Facts.{to_z-of_z, of_z-to_z, Fits-of_z, Fits-lt-pow, Fits-of_lt}
use mir.Syntax.{w32}
use mir.Val.{SFits, to_z, of_z}
use Rattle.laws.specs.Limits.{Width, narrow}
use Rattle.laws.specs.Row.{Row}
use Rattle.laws.specs.Widths.{WidthFacts}
use Rattle.laws.proofs.Integers.{mag_le_abs}
use Rattle.laws.proofs.Width.{narrow_facts}
use Rattle.cluster.specs.declared.record.Record.{Record}
use Rattle.cluster.specs.Bytes.{byte_values, word_bytes, number_at, low_first}
use Rattle.cluster.specs.Record.{record_bytes, weight_at, state_at, spare_at, spare_bytes, row_of, row_in, record_of, has_spare, bytes_of}
use Rattle.cluster.specs.Reading.{rule_of}
use Rattle.cluster.specs.Rule.{broken_rule, keeps_rules}
use Rattle.cluster.proofs.Laws.Bytes.{low_first_back, low_first-small, low_first-length, number_at-front, number_at_behind, get_d_behind}
use Rattle.cluster.proofs.Laws.Bytes.{number_at_back, number_at-lt, byte_values-pow}
use Rattle.cluster.proofs.Laws.Rule.{rules→}

-- ---- the code's words

past-low : (b n : ℕ) → b < byte_values → leb byte_values (b + byte_values * n) ≡ not (eqb n 0)
past-low b zero h = lt-leb byte_values (b + byte_values * 0) (omega arith)
past-low b (suc n) h =
    le-leb byte_values (b + byte_values * suc n) (omega arith) ∙ ap not (sym (ne_eqb (suc n) 0 (λ (e : suc n ≡ 0). omega arith)))

pub has_spare_is : (l : List ℕ) → ((i : ℕ) → get_or l i 0 < byte_values)
    → leb byte_values (number_at word_bytes l (state_at narrow)) ≡ has_spare narrow l
has_spare_is l byte = past-low (get_or l (state_at narrow) 0) (number_at spare_bytes l (spare_at narrow)) (byte (state_at narrow))

pub stored_is : (r : Record) (l : List ℕ) → record_bytes ≤ length l → r.state < byte_values
    → let cluster = sets l 0 (low_first word_bytes r.cluster) in
    let weight = sets cluster (weight_at narrow) (low_first word_bytes (of_z w32 r.weight)) in
    sets weight (state_at narrow) (low_first word_bytes r.state) ≡ bytes_of narrow (row_in r) ++ drop record_bytes l
stored_is r l h k =
    let front = low_first word_bytes r.cluster ++ low_first word_bytes (of_z w32 r.weight) in
    sets-eq (front ++ low_first word_bytes r.state) l 0 h
    ∙ ap (λ (s : List ℕ). (front ++ s) ++ drop record_bytes l) (low_first-small spare_bytes r.state k)

-- ---- the bytes of a row

pub taxa-bytes : (W : Width) → WidthFacts W → 2 ^ W.taxa ≡ byte_values ^ W.cluster_bytes
taxa-bytes W facts = ap (λ (n : ℕ). 2 ^ n) facts.cluster ∙ byte_values-pow W.cluster_bytes

module _ (W : Width) (r : Row) where
  abbrev k : ℕ
  k = W.cluster_bytes

  -- the bytes behind the cluster
  abbrev behind : List ℕ
  behind = low_first word_bytes (of_z w32 r.weight) ++ r.state ∷ low_first spare_bytes 0

  parts : bytes_of W r ≡ low_first k r.cluster ++ behind
  parts = append_assoc (low_first k r.cluster) (low_first word_bytes (of_z w32 r.weight)) (r.state ∷ low_first spare_bytes 0)

  pub bytes_of-length : length (bytes_of W r) ≡ W.cluster_bytes + 8
  bytes_of-length =
      ap length parts
      ∙ length-append (low_first k r.cluster) behind
      ∙ ap (λ (n : ℕ). n + 8) (low_first-length k r.cluster)

  no_spare : has_spare W (bytes_of W r) ≡ false
  no_spare =
      ap (λ (l : List ℕ). has_spare W l) parts ∙ ap (λ (n : ℕ). not (eqb n 0)) (number_at_behind k r.cluster behind spare_bytes 5)

  module _ (small : r.cluster < byte_values ^ W.cluster_bytes) (fits : SFits w32 r.weight) where
    cluster_back : number_at k (bytes_of W r) 0 ≡ r.cluster
    cluster_back =
        ap (λ (l : List ℕ). number_at k l 0) parts
        ∙ number_at-front k (low_first k r.cluster) behind 0 (omega (arith, low_first-length k r.cluster))
        ∙ low_first_back k r.cluster small

    weight_back : to_z w32 (number_at word_bytes (bytes_of W r) (weight_at W)) ≡ r.weight
    weight_back =
        let at : weight_at W ≡ k + 0 = omega arith in
        ap₂ (λ (l : List ℕ) (i : ℕ). to_z w32 (number_at word_bytes l i)) parts at
        ∙ ap (to_z w32) (number_at_behind k r.cluster behind word_bytes 0)
        ∙ ap (to_z w32) (low_first_back word_bytes (of_z w32 r.weight) (Fits-lt-pow (Fits-of_z fits)))
        ∙ to_z-of_z fits

    state_back : get_or (bytes_of W r) (state_at W) 0 ≡ r.state
    state_back = ap (λ (l : List ℕ). get_or l (state_at W) 0) parts ∙ get_d_behind k r.cluster behind 4

    back : row_of W (bytes_of W r) ≡ r
    back = rw (cluster_back, weight_back, state_back) refl

  module _ (facts : WidthFacts W) (h : T (keeps_rules W r)) where
    small : r.cluster < byte_values ^ W.cluster_bytes
    small = subst (λ (n : ℕ). r.cluster < n) (taxa-bytes W facts) (rules→ W r h).0

    fits : SFits w32 r.weight
    fits = record { sfits = omega (arith, mag_le_abs r.weight, (rules→ W r h).1.score.in_range_lem) }

    pub row_of-bytes : row_of W (bytes_of W r) ≡ r
    row_of-bytes = back small fits

    pub bytes_of_rule : rule_of W (bytes_of W r) ≡ broken_rule r.cluster r.weight r.state false
    bytes_of_rule =
        ap₂ (λ (x : Row) (spare : Bool). broken_rule x.cluster x.weight x.state spare) row_of-bytes no_spare

pub record_of-bytes : (r : Record) → T (keeps_rules narrow (row_in r)) → record_of (bytes_of narrow (row_in r)) ≡ r
record_of-bytes r h =
    ap (λ (x : Row). record { cluster = x.cluster; weight = x.weight; state = x.state }) (row_of-bytes narrow (row_in r) narrow_facts h)

-- ---- the row of a record's bytes

spare-zero : (W : Width) (l : List ℕ) → has_spare W l ≡ false → number_at spare_bytes l (spare_at W) ≡ 0
spare-zero W l e =
    eqb-true (number_at spare_bytes l (spare_at W)) 0 (not-false (eqb (number_at spare_bytes l (spare_at W)) 0) e)

module _ (W : Width) (l : List ℕ) (byte : (i : ℕ) → get_or l i 0 < byte_values) (h : length l ≡ W.cluster_bytes + 8) where
  spare_bytes_lem : has_spare W l ≡ false → low_first spare_bytes 0 ≡ drop (spare_at W) l
  spare_bytes_lem e =
      ap (low_first spare_bytes) (sym (spare-zero W l e))
      ∙ number_at_back l byte spare_bytes (spare_at W) (omega arith)
      ∙ take_all spare_bytes (drop (spare_at W) l) (simp length-drop (omega arith))

  weight-bytes : low_first word_bytes (of_z w32 (row_of W l).weight) ≡ take word_bytes (drop (weight_at W) l)
  weight-bytes =
      ap (low_first word_bytes) (of_z-to_z {w = w32} (Fits-of_lt (number_at-lt l byte word_bytes (weight_at W))))
      ∙ number_at_back l byte word_bytes (weight_at W) (omega arith)

  -- the bytes by parts: the cluster's, the weight's, the state with the spare ones
  pub bytes_of-row : has_spare W l ≡ false → bytes_of W (row_of W l) ≡ l
  bytes_of-row e =
      let front = ap₂ (λ (a b : List ℕ). a ++ b) (number_at_back l byte W.cluster_bytes 0 (omega arith)) weight-bytes in
      let at : spare_at W ≡ suc (state_at W) = omega arith in
      let rest = spare_bytes_lem e ∙ ap (λ (i : ℕ). drop i l) at in
      let last = ap (λ (s : List ℕ). get_or l (state_at W) 0 ∷ s) rest ∙ sym (drop-cons l (state_at W) 0 (omega arith)) in
      ap₂ (λ (a b : List ℕ). a ++ b) (front ∙ sym (take-add W.cluster_bytes word_bytes l)) last ∙ take-append-drop (state_at W) l
