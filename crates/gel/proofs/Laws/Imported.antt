-- What importing a sheet gives, for each way in which it ends.
--     import_is         the outcome, spelled out
--     import_bad, import_many, import_short     refused 12, 13 and 11
--     import_done       the list is made
--     bytes-length      how many bytes it has
--     import_told       the records that a success tells are within the room
-- Assumes nothing.
use mathlib.Core.Path.{◌≡◌, refl, sym, ap, ap₂, ◌∙◌}
use mathlib.Core.Bool.{Bool, true, false}
use mathlib.Core.Option.{Option}
use mathlib.Core.List.{List, [], ◌∷◌}
use Prim.Native.Nat.{ℕ, ◌*◌, ◌≤◌, ◌<◌}
use native.Mathlib.Omega.{arith}
use lib.Dec.{ltb, ltb→lt, lt→ltb, nltb→le, not_T}
use lib.ListN.{length}
use Rattle.laws.specs.Limits.{narrow}
use Rattle.laws.proofs.Tests.{T_true, T_false}
use Rattle.laws.proofs.Width.{narrow_facts}
use Rattle.std.specs.Prelude.{Result, Ok, Err}
use Rattle.answers.specs.declared.refusal.Refusal.{Refusal}
use Rattle.answers.specs.declared.refusal.Refusal.TheVariants.{NoRoom, BadSheet, ManyClusters}
use Rattle.answers.specs.Outcome.{Outcome, outcome_of, ended}
use Rattle.answers.specs.Reasons.{when, first_reason}
use Rattle.answers.proofs.Laws.Outcome.{ended_done}
use Rattle.answers.proofs.Laws.Reasons.{none_iff}
use Rattle.cluster.specs.Record.{record_bytes}
use Rattle.lists.proofs.Laws.Written.{written-length}
use Rattle.gel.specs.declared.importing.Import.{Import}
use Rattle.gel.specs.Lines.{first_fault, is_bad_sheet}
use Rattle.gel.specs.Columns.{sheet_rows, sheet_bytes}
use Rattle.gel.specs.Import.{Imported, import_of, not_imported, imported, import_reasons, import_sheet}

module _ (s room : List ℕ) where
  abbrev ended_by : Option Refusal → Outcome Imported
  ended_by o = ended o (not_imported room) (length (sheet_rows s)) (imported s room)

  pub import_is : import_sheet s room ≡ ended_by (first_reason (import_reasons s room))
  unfolding import_sheet
  import_is = refl

  pub bytes-length : length (sheet_bytes s) ≡ length (sheet_rows s) * record_bytes
  bytes-length = written-length narrow narrow_facts (sheet_rows s)

  abbrev is_many : Bool
  is_many = ltb narrow.rows (length (sheet_rows s))

  abbrev is_short : Bool
  is_short = ltb (length room) (length (sheet_bytes s))

  -- what the tests decide
  abbrev told : Bool → Bool → Bool → Option Refusal
  told bad many short =
      first_reason (when bad (BadSheet (first_fault s)) ∷ when many ManyClusters ∷ when short NoRoom ∷ [])

  pub import_bad : is_bad_sheet s ≡ true → import_sheet s room ≡ outcome_of (Err (BadSheet (first_fault s))) (not_imported room)
  import_bad e = import_is ∙ ap (λ (b : Bool). ended_by (told b is_many is_short)) e

  module _ (good : is_bad_sheet s ≡ false) where
    pub import_many : narrow.rows < length (sheet_rows s) → import_sheet s room ≡ outcome_of (Err ManyClusters) (not_imported room)
    import_many h =
        import_is
        ∙ ap₂ (λ (a b : Bool). ended_by (told a b is_short)) good (T_true is_many (lt→ltb narrow.rows (length (sheet_rows s)) h))

    module _ (few : length (sheet_rows s) ≤ narrow.rows) where
      not-many : is_many ≡ false
      not-many = T_false is_many (λ t. omega (arith, few, ltb→lt narrow.rows (length (sheet_rows s)) t))

      last : (short : Bool) → is_short ≡ short → import_sheet s room ≡ ended_by (told false false short)
      last short e =
          import_is
          ∙ ap₂ (λ (a b : Bool). ended_by (told a b is_short)) good not-many
          ∙ ap (λ (b : Bool). ended_by (told false false b)) e

      pub import_short : length room < length (sheet_rows s) * record_bytes
          → import_sheet s room ≡ outcome_of (Err NoRoom) (not_imported room)
      import_short h =
          last true (T_true is_short (lt→ltb (length room) (length (sheet_bytes s)) (omega (arith, h, bytes-length))))

      pub import_done : length (sheet_rows s) * record_bytes ≤ length room
          → import_sheet s room ≡ outcome_of (Ok (length (sheet_rows s))) (imported s room)
      import_done h =
          last false
          (T_false is_short (λ t. omega (arith, h, bytes-length, ltb→lt (length room) (length (sheet_bytes s)) t)))

  -- ---- asking for it
  pub import_told : {r : Result Import Refusal} (m : List ℕ) {i : Import} → import_of r m ≡ import_sheet s room → r ≡ Ok i
      → i.records * record_bytes ≤ length room
  import_told {r} m {i} e a =
      let reasons = import_reasons s room in
      let n = i.records in
      let given : Imported = record { unread = i.unread; room = m } in
      let done : outcome_of (Ok n) given ≡ ended_by (first_reason reasons) =
      ap (λ (x : Result Import Refusal). import_of x m) (sym a) ∙ e ∙ import_is in
      let untold = (ended_done (first_reason reasons) (not_imported room) (length (sheet_rows s)) (imported s room) n given (sym done)).0 in
      let records : n ≡ length (sheet_rows s) = ap (λ (o : Outcome Imported). o.sent.told) (done ∙ ap ended_by untold) in
      let fits = nltb→le (length room) (length (sheet_bytes s)) (not_T is_short ((none_iff reasons).0 untold).1.1.0) in
      omega (arith, records, bytes-length, fits)
