-- What is true of records and their operations (RULES 2, 8 and 12).
--     read_only             one outcome of `read_record`: the answer and the record
--     kept_iff, score_iff   no rule is broken exactly where the rules' sentences hold (`Keeps`, `KeepsScore` of `specs/Rule.antt`)
--     read_accepts_iff      twelve bytes are accepted exactly when no rule is broken
--     write_accepts_iff     and a record, where the room is long enough too
--     read_write_back       what was written, read again, is the same record
--     write_read_back       accepted bytes, read and written again, are the same bytes
-- One outcome of the other operations, whose promises are equations to a value: `value-only` of the crate `laws`. The numbers of the
-- refusals are pinned in the crate `answers`.
-- Assumes nothing.
use mathlib.Core.Path.{◌≡◌, refl, sym, ap, ap₂, ◌∙◌}
use mathlib.Core.Logic.{◌↔◌}
use mathlib.Core.Bool.{Bool, true, false}
use mathlib.Core.List.{List, ◌++◌}
use Prim.Native.Nat.{ℕ, ◌^◌, ◌≤◌, ◌<◌}
use lib.Dec.{T, eqb, ltb, eqb→eq}
use lib.IntN.{ℤ}
use lib.ListN.{length, get_or, take, drop}
use Rattle.laws.specs.Limits.{narrow}
use Rattle.laws.proofs.Tests.{T_and, T_true, T-of-not, true_T}
use Rattle.laws.proofs.Width.{narrow_facts}
use Rattle.cluster.specs.declared.reading.Reading.{Reading}
use Rattle.cluster.specs.declared.record.Record.{Record}
use Rattle.answers.specs.Refusal.{Answer}
use Rattle.std.specs.Prelude.{Ok}
use Rattle.cluster.specs.Bytes.{byte_values}
use Rattle.answers.specs.Outcome.{Outcome, outcome_of}
use Rattle.cluster.specs.Record.{record_bytes, row_of, row_in, record_of, has_spare, bytes_of}
use Rattle.cluster.specs.Rule.{broken_rule, is_kept, is_score, keeps_rules, Keeps, KeepsScore}
use Rattle.answers.specs.Reasons.{NoneApplies}
use Rattle.cluster.specs.Reading.{rule_of, zero_record, reading_of, read_reasons, read_record}
use Rattle.cluster.specs.Writing.{write_reasons, write_record}
use Rattle.answers.proofs.Laws.Outcome.{outcome_only, accepts_iff, written_accepts_iff}
use Rattle.cluster.proofs.Laws.Record.{record_of-bytes, bytes_of_rule, bytes_of-row}
use Rattle.cluster.proofs.Laws.Rule.{kept→keeps, keeps→kept, score→keeps, keeps→score}
use Rattle.cluster.proofs.Laws.Reading.{read_record_is, read_record-kept}
use Rattle.cluster.proofs.Laws.Writing.{write_record_is, write_record-kept}

-- ---- two outcomes that a promise allows are equal

pub read_only : (l : List ℕ) (x y : Reading) → reading_of x ≡ read_record l → reading_of y ≡ read_record l → x ≡ y
read_only l x y p q =
    let e = outcome_only x.answer y.answer x.«record» y.«record» p q in
    ap₂ (λ (a : Answer) (r : Record). record { answer = a; «record» = r }) e.0 e.1

-- ---- accepted exactly when no rule is broken

pub kept_iff : (c : ℕ) (z : ℤ) (s : ℕ) (spare : Bool) → T (is_kept (broken_rule c z s spare)) ↔ Keeps c z s spare
kept_iff c z s spare = (kept→keeps c z s spare, keeps→kept c z s spare)

pub score_iff : (z : ℤ) (s : ℕ) → T (is_score z s) ↔ KeepsScore z s
score_iff z s = (score→keeps z s, keeps→score z s)

module _ (l : List ℕ) where
  abbrev bytes_kept : Bool
  bytes_kept = is_kept (rule_of narrow l)

  pub read_accepts_iff : ((read_record l).sent.number ≡ 0) ↔ ((length l ≡ record_bytes) × (is_kept (rule_of narrow l) ≡ true))
  read_accepts_iff = (
    λ n. accepted ((accepts_iff (read_reasons l) zero_record 0 (record_of l)).0 (sym (number (read_record_is l)) ∙ n)),
    λ p. number (read_record-kept l p.0 p.1),
  )
    where
      number : {o : Outcome Record} → read_record l ≡ o → (read_record l).sent.number ≡ o.sent.number
      number e = ap (λ (o : Outcome Record). o.sent.number) e

      accepted : NoneApplies (read_reasons l) → (length l ≡ record_bytes) × (is_kept (rule_of narrow l) ≡ true)
      accepted k =
          (eqb→eq (length l) record_bytes (T-of-not (eqb (length l) record_bytes) k.0), T_true bytes_kept (T-of-not bytes_kept k.1.0))

module _ (r : Record) (room : List ℕ) where
  abbrev kept : Bool
  kept = is_kept (broken_rule r.cluster r.weight r.state false)

  pub write_accepts_iff : ((write_record r room).sent.number ≡ 0)
      ↔ ((is_kept (broken_rule r.cluster r.weight r.state false) ≡ true) × (record_bytes ≤ length room))
  write_accepts_iff = (
    λ n. accepted ((written_accepts_iff (write_reasons r) (bytes_of narrow (row_in r)) room).0 (sym (number (write_record_is r room)) ∙ n)),
    λ p. number (write_record-kept r room p.0 p.1),
  )
    where
      number : {o : Outcome (List ℕ)} → write_record r room ≡ o → (write_record r room).sent.number ≡ o.sent.number
      number e = ap (λ (o : Outcome (List ℕ)). o.sent.number) e

      accepted : NoneApplies (write_reasons r) × (record_bytes ≤ length room) → (kept ≡ true) × (record_bytes ≤ length room)
      accepted k = (T_true kept (T-of-not kept k.0.0), k.1)

-- ---- there and back again

-- what was written into any room, read again, is the record
pub read_write_back : (r : Record) (room : List ℕ) → T (keeps_rules narrow (row_in r)) → record_bytes ≤ length room
    → read_record (take record_bytes (write_record r room).given) ≡ outcome_of (Ok 0) r
read_write_back r room h fits =
    let e = T_true _ (T_and (ltb r.cluster (2 ^ narrow.taxa)) _ h).1 in
    ap (λ (o : Outcome (List ℕ)). read_record (take record_bytes o.given)) (write_record-kept r room e fits)
    ∙ read_record-kept (bytes_of narrow (row_in r)) refl (ap is_kept (bytes_of_rule narrow (row_in r) narrow_facts h) ∙ e)
    ∙ ap (outcome_of (Ok 0)) (record_of-bytes r h)

-- accepted bytes, read and written into any room that is long enough, are the same bytes, with the room's own behind them
pub write_read_back : (l room : List ℕ) → ((i : ℕ) → get_or l i 0 < byte_values) → (read_record l).sent.number ≡ 0
    → record_bytes ≤ length room
    → write_record (read_record l).given room ≡ outcome_of (Ok record_bytes) (l ++ drop record_bytes room)
write_read_back l room byte n h =
    let p = (read_accepts_iff l).0 n in
    let r = row_of narrow l in
    let clear = (kept→keeps r.cluster r.weight r.state (has_spare narrow l) (true_T p.1)).no_spare in
    ap (λ (o : Outcome Record). write_record o.given room) (read_record-kept l p.0 p.1)
    ∙ write_record-kept (record_of l) room (ap (λ (b : Bool). is_kept (broken_rule r.cluster r.weight r.state b)) (sym clear) ∙ p.1) h
    ∙ ap (λ (s : List ℕ). outcome_of (Ok record_bytes) (s ++ drop record_bytes room)) (bytes_of-row narrow l byte p.0 clear)
