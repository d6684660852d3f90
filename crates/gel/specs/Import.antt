-- The import of a gel sheet: why it is refused, and what it gives (RULES 13).
--     Imported            how many columns have a ?, and the room afterwards
--     not_imported room, imported s room     what a refusal leaves, and what a success gives
--     import_of r room     the code's import or refusal as an outcome: on a refusal no column is counted
--     unread_of r          how many columns have a ?, as that outcome has it
--     sheet_reasons s      why a sheet is refused, the room left aside: 12, then 13
--     import_reasons s room     then 11
--     import_sheet s room  what importing the sheet s into a room gives: a refusal, or else the list stands first, and the number of its
--                         records is told
-- Assumes nothing.
use Rattle.std.specs.Prelude.{List, [], ◌∷◌, ◌++◌, ℕ, ltb, length, Result}
use Rattle.laws.specs.Limits.{narrow}
use Rattle.answers.specs.declared.refusal.Refusal.{Refusal}
use Rattle.answers.specs.declared.refusal.Refusal.TheVariants.{NoRoom, BadSheet, ManyClusters}
use Rattle.answers.specs.Outcome.{Outcome, result_of, ended, put_into}
use Rattle.answers.specs.Reasons.{Reason, when, first_reason}
use Rattle.gel.specs.declared.importing.Import.{Import}
use Rattle.gel.specs.Lines.{first_fault, is_bad_sheet}
use Rattle.gel.specs.Columns.{unread_columns, sheet_rows, sheet_bytes}

pub record Imported : Type 0 where
  pub unread : ℕ
  pub room : List ℕ

-- what a refusal leaves: nothing is counted, and the room stays as it was
abbrev pub not_imported : List ℕ → Imported
not_imported room = record { unread = 0; room = room }

abbrev pub import_of : Result Import Refusal → List ℕ → Outcome Imported
import_of r room =
    result_of (λ (i : Import). i.records) (λ (i : Import). record { unread = i.unread; room = room }) (not_imported room) r

abbrev pub unread_of : Result Import Refusal → ℕ
unread_of r = (import_of r []).given.unread

-- what a success gives: the list stands first in the room
abbrev pub imported : List ℕ → List ℕ → Imported
imported s room = record { unread = unread_columns s; room = put_into (sheet_bytes s) room }

abbrev pub sheet_reasons : List ℕ → List Reason
sheet_reasons s =
    when (is_bad_sheet s) (BadSheet (first_fault s)) ∷ when (ltb narrow.rows (length (sheet_rows s))) ManyClusters ∷ []

abbrev pub import_reasons : List ℕ → List ℕ → List Reason
import_reasons s room = sheet_reasons s ++ (when (ltb (length room) (length (sheet_bytes s))) NoRoom ∷ [])

unfoldable pub import_sheet : List ℕ → List ℕ → Outcome Imported
import_sheet s room =
    ended (first_reason (import_reasons s room)) (not_imported room) (length (sheet_rows s)) (imported s room)
