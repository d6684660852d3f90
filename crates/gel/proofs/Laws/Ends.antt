-- The ways in which the list of a sheet is made or refused, from what its parts promise.
--     ends_bad, ends-many, ends-short, ends_done     a line at fault, too many clusters, too short a room, and the list
-- Assumes nothing.
use mathlib.Core.Path.{◌≡◌, sym, ap, ap₂, ◌∙◌, subst}
use mathlib.Core.List.{List}
use Rattle.std.specs.Prelude.{Err}
use Prim.Native.Nat.{ℕ, ◌*◌, ◌≤◌, ◌<◌}
use lib.ListN.{length}
use Rattle.laws.specs.Limits.{narrow}
use Rattle.laws.specs.Row.{Row}
use Rattle.laws.proofs.Tests.{T_true}
use Rattle.std.specs.Prelude.{Ok, Err}
use Rattle.answers.specs.declared.refusal.Refusal.TheVariants.{NoRoom, BadSheet, ManyClusters}
use Rattle.answers.specs.Outcome.{outcome_of, put_into}
use Rattle.cluster.specs.Record.{record_bytes}
use Rattle.lists.specs.Accepted.{bytes_of_rows}
use Rattle.gel.specs.declared.tally.Tally.{Tally}
use Rattle.gel.specs.Lines.{is_bad_sheet}
use Rattle.gel.specs.Columns.{sheet_rows}
use Rattle.gel.specs.Import.{Imported, import_of, not_imported, import_sheet}
use Rattle.gel.specs.Form.{Formed, FaultAt}
use Rattle.gel.specs.Tally.{TallyIs, rows_of_keys}
use Rattle.gel.proofs.Laws.Made.{Sized, sized_of, tally_length, tally_rows}
use Rattle.gel.proofs.Laws.Imported.{import_bad, import_many, import_short, import_done}

module _ (s room : List ℕ) where
  -- a refusal, in the words of the outcome
  pub ends_bad : (i : ℕ) → FaultAt s i → import_of (Err (BadSheet i)) room ≡ import_sheet s room
  ends_bad i f =
      ap (λ (k : ℕ). outcome_of (Err (BadSheet k)) (not_imported room)) f.first
      ∙ sym (import_bad s room (T_true (is_bad_sheet s) f.bad))

  module _ (n w : ℕ) (formed : Formed s n w) (t : Tally) (tally : TallyIs s t) where
    sized : Sized s
    sized = sized_of s n w formed

    abbrev many : ℕ
    many = length t.keys.items

    rows : many ≡ length (sheet_rows s)
    rows = tally_length s sized t tally

    pub ends-many : narrow.rows < many → import_of (Err ManyClusters) room ≡ import_sheet s room
    ends-many h = sym (import_many s room formed.right (subst (λ (m : ℕ). narrow.rows < m) rows h))

    module _ (few : many ≤ narrow.rows) where
      fewer : length (sheet_rows s) ≤ narrow.rows
      fewer = subst (λ (m : ℕ). m ≤ narrow.rows) rows few

      pub ends-short : length room < many * record_bytes → import_of (Err NoRoom) room ≡ import_sheet s room
      ends-short h = sym (import_short s room formed.right fewer (subst (λ (m : ℕ). length room < m * record_bytes) rows h))

      pub ends_done : many * record_bytes ≤ length room → (after : List ℕ)
          → after ≡ put_into (bytes_of_rows narrow (rows_of_keys t.keys.items)) room
          → import_of (Ok (record { records = many; unread = t.unread })) after ≡ import_sheet s room
      ends_done h after put =
          ap₂ (λ (m : ℕ) (i : Imported). outcome_of (Ok m) i) rows
          (ap₂ (λ (u : ℕ) (l : List ℕ). record { unread = u; room = l }) tally.unread
          (put ∙ ap (λ (rs : List Row). put_into (bytes_of_rows narrow rs) room) (tally_rows s sized t tally)))
          ∙ sym (import_done s room formed.right fewer (subst (λ (m : ℕ). m * record_bytes ≤ length room) rows h))
