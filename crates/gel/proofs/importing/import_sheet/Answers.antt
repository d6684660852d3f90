-- `gel::importing::import_sheet` meets its contract: one law for each way in which it returns. Assumes nothing.
use Rattle.std.proofs.Common.{◌≡◌, sym, ap, subst, refl, ◌⊎◌, inl, inr, ℕ, length, List, Result, Ok, Err, arith, rules}
use Rattle.std.proofs.lemmas.Result.{err_from_is_err_and}
use Rattle.answers.specs.declared.refusal.Refusal.TheVariants.{BadSheet}
use Rattle.gel.specs.declared.lines.Sheet.{Sheet}
use Rattle.gel.specs.Form.{Formed}
use Rattle.gel.specs.Tally.{TallyIs, Keys}
use Rattle.gel.proofs.Laws.Made.{sized_of, tally_keys}
use Rattle.gel.proofs.Laws.Ends.{ends_bad, ends-many, ends-short, ends_done}
use Rattle.gel.proofs.importing.import_sheet.Goals as goal
use Rattle.gel.proofs.importing.import_sheet.Goals.{After-of-tally}

-- ---- what was read, past the `?`

either : (r : Result Sheet ℕ) → ((x : Sheet) × (r ≡ Ok x)) ⊎ ((i : ℕ) × (r ≡ Err i))
either (Ok x) = inl (x, refl)
either (Err i) = inr (i, refl)

pub returns-in_err-sheet : goal.returns-in_err-sheet
returns-in_err-sheet c =
    let p = err_from_is_err_and c.from_residual.result c.from_residual.ensures.1 in
    elim (either c.read.result) [
      | inl q ↦ let k = rw q.1 at c.in_err-sheet.ensures.cases in absurd cc
      | inr q ↦
          let fault = rw q.1 at c.read.ensures in
          let k = rw q.1 at c.in_err-sheet.ensures.cases in
          let is : c.in_err-sheet.field-0.0 ≡ BadSheet q.0 = search rules in
          rw (p.1, p.2, is) (ends_bad c.args.sheet.now c.args.room.now q.0 fault)
    ]

-- ---- what is counted

read : (c : After-of-tally) → c.in_ok-sheet.sheet.bytes.now ≡ c.args.sheet.now
read c = search rules

formed : (c : After-of-tally) → Formed c.args.sheet.now c.in_ok-sheet.sheet.lines c.in_ok-sheet.sheet.width
formed c = subst (λ (s : List ℕ). Formed s c.in_ok-sheet.sheet.lines c.in_ok-sheet.sheet.width) (read c) c.in_ok-sheet.sheet.formed

counted : (c : After-of-tally) → TallyIs c.args.sheet.now c.of-tally.result
counted c = subst (λ (s : List ℕ). TallyIs s c.of-tally.result) (read c) c.of-tally.ensures

pub returns-then-records-gt-MOST_RECORDS : goal.returns-then-records-gt-MOST_RECORDS
returns-then-records-gt-MOST_RECORDS c =
    let t = (goal.at.returns-then-records-gt-MOST_RECORDS c).After-of-tally in
    ends-many _ _ _ _ (formed t) _ (counted t) (omega (arith, c.len-records.ensures.value, c.if-records-gt-MOST_RECORDS.true))

pub returns-then-room-records : goal.returns-then-room-records
returns-then-room-records c =
    let t = (goal.at.returns-then-room-records c).After-of-tally in
    ends-short _ _ _ _ (formed t) _ (counted t) (omega (arith, c.len-records.ensures.value, c.if-records-gt-MOST_RECORDS.false))
    (omega (arith, c.len-records.ensures.value, c.if-room-records.true))

pub put_rows-requires : goal.put_rows-requires
put_rows-requires c =
    let t = (goal.at.put_rows-requires c).After-of-tally in
    let keys = tally_keys _ (sized_of _ _ _ (formed t)) _ (counted t) in
    (subst Keys (sym c.deref.ensures.0) keys, omega (arith, ap length c.deref.ensures.0, c.len-records.ensures.value, c.if-room-records.false))

pub returns : goal.returns
returns c =
    let t = (goal.at.returns c).After-of-tally in
    rw c.len-records.ensures.value
    (ends_done _ _ _ _ (formed t) _ (counted t) (omega (arith, c.len-records.ensures.value, c.if-records-gt-MOST_RECORDS.false))
    (omega (arith, c.len-records.ensures.value, c.if-room-records.false)) _ (rw c.deref.ensures.0 at c.put_rows.ensures))
