-- Rows of keys, written one after the other.
--     row_of_key-rules         the row of a key that can be written keeps the record rules
--     row_bytes ks i          the records of the first i keys
--     row_bytes_length        how many bytes they have
--     PutTo ks room₀ room i     the first i records stand at the start of the room
--     put-more               one record more is written
--     put-length, put-fits   the room keeps its length, and has room for the next record
-- Assumes nothing.
use mathlib.Core.Path.{◌≡◌, refl, sym, ap, ap₂, ◌∙◌, subst}
use mathlib.Core.Bool.{false}
use mathlib.Core.List.{List, ◌++◌, append_assoc, append-nil}
use Prim.Native.Nat.{ℕ, suc, ◌+◌, ◌-◌, ◌*◌, ◌/◌, ◌≤◌, ◌<◌}
use native.Mathlib.Nat.{suc-mul, mul-le-mul_right}
use native.Mathlib.Numerals.{add-one}
use native.Mathlib.Omega.{arith}
use borrow.Rule.Slice.PartMut.{put_mid, mid_of}
use lib.Dec.{T}
use lib.ListN.{length, take, drop, length-drop, drop_of_length-le}
use lib.Seq.{take_at, drop_at, drop-drop, length_front, length-take-le}
use Rattle.laws.specs.Limits.{narrow}
use Rattle.laws.specs.Row.{Row}
use Rattle.laws.specs.State.{scored}
use Rattle.laws.proofs.Down.{down_length}
use Rattle.laws.proofs.Tests.{T_true}
use Rattle.laws.proofs.Width.{narrow_facts}
use Rattle.answers.specs.Refusal.{Answer}
use Rattle.answers.specs.Outcome.{Outcome, outcome_of, put_into}
use Rattle.cluster.specs.declared.record.Record.{Record}
use Rattle.cluster.specs.Record.{record_bytes, row_in, bytes_of}
use Rattle.cluster.specs.Rule.{broken_rule, is_kept, keeps_rules}
use Rattle.cluster.specs.Writing.{write_record}
use Rattle.cluster.proofs.Laws.Rule.{keeps→kept, rules→, →rules}
use Rattle.cluster.proofs.Laws.Writing.{write_record-kept}
use Rattle.lists.specs.Accepted.{bytes_of_rows}
use Rattle.lists.proofs.Laws.Written.{written-length}
use Rattle.gel.specs.Tally.{key_unit, Key, Keys, key_at, row_of_key, rows_from}

pub row_of_key-rules : (k : ℕ) → Key k → T (keeps_rules narrow (row_of_key k))
unfolding scored
row_of_key-rules k key = →rules narrow (row_of_key k) (omega (arith, key.most)) (record {
  has_taxon_lem = λ (e : k / key_unit ≡ 0). omega (arith, key.some);
  no_spare = refl;
  score = record { has_state = tt; no_weight = λ (e : ◌≡◌ {A = ℕ} 1 0). absurd (omega arith); in_range_lem = omega arith };
})

-- what writing the record of a key into twelve bytes gives
one_written : (r : Record) (k : ℕ) → Key k → row_in r ≡ row_of_key k → (a : Answer) (part l : List ℕ) → length l ≡ record_bytes
    → outcome_of a part ≡ write_record r l → part ≡ bytes_of narrow (row_of_key k)
one_written r k key is a part l long told =
    ap (λ (o : Outcome (List ℕ)). o.given) (told ∙ write_record-kept r l (T_true _ kept) (omega (arith, long)))
    ∙ ap₂ (λ (x : Row) (s : List ℕ). bytes_of narrow x ++ s) is (drop_of_length-le l {i = record_bytes} (omega (arith, long)))
    ∙ append-nil (bytes_of narrow (row_of_key k))
  where
    kept : T (is_kept (broken_rule r.cluster r.weight r.state false))
    kept =
        keeps→kept r.cluster r.weight r.state false
        (rules→ narrow (row_in r) (subst (λ (x : Row). T (keeps_rules narrow x)) (sym is) (row_of_key-rules k key))).1

module _ (ks : List ℕ) where
  abbrev pub row_bytes : ℕ → List ℕ
  row_bytes i = bytes_of_rows narrow (rows_from ks i)

  pub row_bytes_length : (i : ℕ) → length (row_bytes i) ≡ i * record_bytes
  row_bytes_length i =
      written-length narrow narrow_facts (rows_from ks i)
      ∙ ap (λ (m : ℕ). m * record_bytes) (down_length (λ (j : ℕ). row_of_key (key_at ks j)) i)

  module _ (room₀ : List ℕ) where
    abbrev pub PutTo : List ℕ → ℕ → Type 0
    PutTo room i = room ≡ put_into (row_bytes i) room₀

    module _ (fits : length ks * record_bytes ≤ length room₀) (room : List ℕ) (i : ℕ) (more : i < length ks) (p : PutTo room i) where
      abbrev at : ℕ
      at = i * record_bytes

      ends : length (row_bytes i) ≡ at
      ends = row_bytes_length i

      due : at + record_bytes ≤ length ks * record_bytes
      due = omega (arith, suc-mul i record_bytes, mul-le-mul_right record_bytes more)

      pub put-length : length room ≡ length room₀
      put-length =
          ap length p
          ∙ length_front room₀ (row_bytes i) (length (row_bytes i))
          (sym (length-take-le (length (row_bytes i)) room₀ (omega (arith, ends, due, fits))))

      before : take at room ≡ row_bytes i
      before = ap (take at) p ∙ take_at (row_bytes i) (drop (length (row_bytes i)) room₀) at ends

      behind : drop at room ≡ drop at room₀
      behind =
          ap (drop at) p
          ∙ drop_at (row_bytes i) (drop (length (row_bytes i)) room₀) at ends
          ∙ ap (λ (k : ℕ). drop k room₀) ends

      pub put-fits : at + record_bytes ≤ length room
      put-fits = omega (arith, put-length, due, fits)

      pub put-more : Keys ks → (r : Record) → row_in r ≡ row_of_key (key_at ks i) → (a : Answer) (part : List ℕ)
          → outcome_of a part ≡ write_record r (mid_of at (at + record_bytes - at) room)
          → PutTo (put_mid at (at + record_bytes - at) room part) (i + 1)
      put-more keys r is a part told =
          rw (add-one i, back, before, behind, came)
          (sym (append_assoc (row_bytes i) next (drop record_bytes (drop at room₀)))
          ∙ ap (λ (l : List ℕ). (row_bytes i ++ next) ++ l) rest)
        where
          next : List ℕ
          next = bytes_of narrow (row_of_key (key_at ks i))

          back : at + record_bytes - at ≡ record_bytes
          back = omega arith

          lent : length (mid_of at record_bytes room) ≡ record_bytes
          lent = length-take-le record_bytes (drop at room) (omega (arith, length-drop at room, put-fits))

          came : part ≡ next
          came = one_written r (key_at ks i) (keys.each i more) is a part (mid_of at record_bytes room) lent (rw back at told)

          after : length (row_bytes (suc i)) ≡ at + record_bytes
          after = row_bytes_length (suc i) ∙ omega (arith, suc-mul i record_bytes)

          -- what lies behind the next record is as it was
          rest : drop record_bytes (drop at room₀) ≡ drop (length (row_bytes (suc i))) room₀
          rest = drop-drop record_bytes at room₀ ∙ ap (λ (k : ℕ). drop k room₀) (sym after)
