-- What the rules demand of lists, each under one name (RULES 2, 8 and 12), over any width. The degree bound is the build's own.
--     accepts_iff                   a list is taken exactly when it is accepted, in the rules' words (`Accepted`)
--     accepted_iff                  no reason for refusing it applies exactly then
--     refuses_iff                   a refusal is sent back exactly when it is the first that applies
--     empty_iff, long_iff, cut_iff, bad_iff, repeated_iff (Laws/Reasons.antt)     what each reason says in words
--     read-accepted                 what is given then: the rows of the list
--     row_iff, cluster_iff (Laws/Records.antt)     the rows of a list are its records, and their clusters those of its records
--     rows_of-records, read_of_records     the order of records plays no part
--     accepted_facts, accepted-rules, accepted-some, accepted-few     what is known of the rows of an accepted list
--     written-accepted, written-rows (Laws/Written.antt)     rows in order, written one after the other, are an accepted list of these rows
--     without_records, without_rows, without_accepted (Laws/Without.antt)     an accepted list with its unscored records left out: its records
--                                   are the scored ones, in their order, and it is accepted where there is one
--     list_only, check_only         one outcome of `read_list`, and of `check_list`
-- Assumes nothing.
use mathlib.Core.Path.{◌≡◌, sym, ap, ◌∙◌, subst}
use mathlib.Core.Logic.{◌↔◌}
use mathlib.Core.List.{List, []}
use mathlib.Core.List.{Memᴰ as Mem}
use Prim.Native.Nat.{ℕ, ◌*◌, ◌%◌, ◌≤◌}
use native.Mathlib.Decide.{dec_le}
use native.Mathlib.Nat.{div-add-mod, mul-zero, mul_comm, le_of_mul-le-mul_left}
use native.Mathlib.Omega.{arith}
use lib.Dec.{T, eqb, ltb, eqb→eq}
use lib.ListN.{length}
use Rattle.laws.specs.Limits.{Width}
use Rattle.laws.specs.Orders.{Falling}
use Rattle.laws.specs.Row.{Row}
use Rattle.laws.specs.Widths.{WidthFacts}
use Rattle.laws.proofs.Tests.{T-of-not}
use Rattle.answers.specs.Refusal.{Answer}
use Rattle.std.specs.Prelude.{Result, Ok, Err}
use Rattle.answers.specs.declared.refusal.Refusal.{Refusal}
use Rattle.answers.specs.Outcome.{Outcome, outcome_of}
use Rattle.answers.specs.Reasons.{First, NoneApplies}
use Rattle.answers.specs.Refusal.{sent_of}
use Rattle.cluster.specs.Rule.{keeps_rules}
use Rattle.answers.proofs.Laws.Outcome.{result_only}
use Rattle.answers.proofs.Laws.Outcome as outcome
use Rattle.answers.proofs.Laws.Reasons.{none_iff}
use Rattle.answers.proofs.Laws.Refusal.{sent_of_inj}
use Rattle.trees.specs.Rows.{clusters_of, RowFacts}
use Rattle.lists.specs.declared.listing.Listing.{Listing}
use Rattle.lists.specs.Records.{records_in, listed_at, rows_of}
use Rattle.lists.specs.Listing.{Listed, listed, listing_of, list_reasons, read_list}
use Rattle.lists.specs.Accepted.{Bytes, Accepted, RecordsAmong}
use Rattle.lists.proofs.Laws.Listing.{read_list_is, ended_by}
use Rattle.lists.proofs.Laws.Reasons.{empty_iff, long_iff, cut_iff, kept_iff, once_iff}
use Rattle.lists.proofs.Laws.Records.{new_iff, row_iff, row-rules, row_facts}
use Rattle.lists.proofs.Laws.Rows.{rows-length, rows_fall, falling_only}

module _ (W : Width) (l : List ℕ) where
  -- ---- which lists are taken
  pub accepted_iff : NoneApplies (list_reasons W l) ↔ Accepted W l
  accepted_iff = (to, from)
    where
      short : (T (ltb W.list_bytes (length l)) → ⊥) → Dec (length l ≤ W.list_bytes) → length l ≤ W.list_bytes
      short h (yes k) = k
      short h (no k) = absurd (h ((long_iff W l).1 (omega arith)))

      to : NoneApplies (list_reasons W l) → Accepted W l
      to k = record {
        filled = λ e. k.0 ((empty_iff W l).1 e);
        short = short k.1.0 (dec_le (length l) W.list_bytes);
        whole = eqb→eq (length l % W.record_bytes) 0 (T-of-not (eqb (length l % W.record_bytes) 0) k.1.1.0);
        kept = (kept_iff W l).0 k.1.1.1.0;
        once = (once_iff W l).0 k.1.1.1.1.0;
      }

      from : Accepted W l → NoneApplies (list_reasons W l)
      from a = (
        λ t. a.filled ((empty_iff W l).0 t),
        (
          λ t. omega (arith, a.short, (long_iff W l).0 t),
          (
            λ t. (cut_iff W l).0 t a.whole,
            ((kept_iff W l).1 a.kept, ((once_iff W l).1 a.once, tt)),
          ),
        ),
      )

  pub accepts_iff : ((read_list W l).sent.number ≡ 0) ↔ Accepted W l
  accepts_iff =
      let by = outcome.accepts_iff (list_reasons W l) (listed []) 0 (listed (rows_of W l)) in
      let number = ap (λ (o : Outcome Listed). o.sent.number) (read_list_is W l) in
      (λ e. accepted_iff.0 (by.0 (sym number ∙ e)), λ a. number ∙ by.1 (accepted_iff.1 a))

  pub refuses_iff : (f : Refusal) → ((read_list W l).sent ≡ sent_of (Err f)) ↔ First (list_reasons W l) f
  refuses_iff f =
      let by = outcome.refuses_iff (list_reasons W l) (listed []) 0 (listed (rows_of W l)) f in
      let sent = ap (λ (o : Outcome Listed). o.sent) (read_list_is W l) in
      (λ e. by.0 (sym sent ∙ e), λ h. sent ∙ by.1 h)

  pub read-accepted : Accepted W l → read_list W l ≡ outcome_of (Ok 0) (listed (rows_of W l))
  read-accepted a =
      read_list_is W l ∙ ended_by W l (list_reasons W l) ((none_iff (list_reasons W l)).1 (accepted_iff.1 a))

  -- ---- one outcome
  pub list_only : (x y : Result Listing Refusal) → listing_of x ≡ read_list W l → listing_of y ≡ read_list W l → x ≡ y
  list_only =
      result_only (λ (r : Listing). 0) (λ (r : Listing). (listing_of (Ok r)).given) (listed [])
      (λ x y _ e. ap (λ (s : Listed). record { rows = s.rows; clusters = s.clusters; weights = s.weights; states = s.states }) e)

  pub check_only : (a b : Answer) → sent_of a ≡ (read_list W l).sent → sent_of b ≡ (read_list W l).sent → a ≡ b
  check_only a b p q = sent_of_inj a b (p ∙ sym q)

  -- ---- the rows of an accepted list
  module _ (a : Accepted W l) where
    counted : length (rows_of W l) ≡ records_in W l
    counted = rows-length (listed_at W l) (records_in W l)

    records-whole : W.record_bytes * records_in W l ≡ length l
    records-whole = omega (arith, div-add-mod (length l) W.record_bytes, a.whole)

    pub accepted-some : 1 ≤ length (rows_of W l)
    accepted-some = go (dec_le 1 (records_in W l))
      where
        go : Dec (1 ≤ records_in W l) → 1 ≤ length (rows_of W l)
        go (yes h) = omega (arith, counted)
        go (no h) =
            let none : records_in W l ≡ 0 = omega arith in
            absurd (a.filled (sym records-whole ∙ ap (λ (n : ℕ). W.record_bytes * n) none ∙ mul-zero W.record_bytes))

    module _ (facts : WidthFacts W) where
      pub accepted-few : length (rows_of W l) ≤ W.rows
      accepted-few =
          subst (λ (n : ℕ). n ≤ W.rows) (sym counted)
          (le_of_mul-le-mul_left {k = W.record_bytes}
          (omega (arith, records-whole, a.short, facts.whole, mul_comm W.rows W.record_bytes))
          (omega (arith, facts.spare)))

      pub accepted-rules : Bytes l → (r : Row) → Mem r (rows_of W l) → T (keeps_rules W r)
      accepted-rules byte = row-rules W l facts byte a.kept

      pub accepted_facts : Bytes l → RowFacts W.taxa (rows_of W l)
      accepted_facts byte = row_facts W l facts byte a.kept a.once

-- ---- the order of records plays no part

module _ (W : Width) (l m : List ℕ) (a : Accepted W l) (b : Accepted W m) (there : RecordsAmong W l m) (back : RecordsAmong W m l) where
  moved : (x y : List ℕ) → RecordsAmong W x y → (r : Row) → Mem r (rows_of W x) → Mem r (rows_of W y)
  moved x y h r k =
      let q = (row_iff W x r).0 k in
      let p = h q.0 q.1 in
      (row_iff W y r).1 (p.0, p.1, q.2 ∙ p.2)

  falls : (x : List ℕ) → Accepted W x → Falling (clusters_of (rows_of W x))
  falls x k = rows_fall (listed_at W x) (records_in W x) (λ i h. (new_iff W x i).1 (k.once i h))

  pub rows_of-records : rows_of W l ≡ rows_of W m
  rows_of-records =
      falling_only (rows_of W l) (rows_of W m) (falls l a) (falls m b) (record { to = moved l m there; from = moved m l back })

  pub read_of_records : read_list W l ≡ read_list W m
  read_of_records =
      read-accepted W l a ∙ ap (λ (rs : List Row). outcome_of (Ok 0) (listed rs)) rows_of-records ∙ sym (read-accepted W m b)
