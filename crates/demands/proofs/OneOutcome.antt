-- ONE OUTCOME (RULES 12): of each public operation, two outcomes that its promise allows are equal.
--     room-only        an answer with the room afterwards, whatever the operation
--     import_only      an import with the room afterwards
--     one_outcome      the table of `specs/OneOutcome.antt`, crate by crate
-- Assumes nothing.
use mathlib.Core.Path.{◌≡◌, sym, ap, ap₂}
use mathlib.Core.List.{List}
use Prim.Native.Nat.{ℕ}
use Rattle.laws.specs.Limits.{narrow}
use Rattle.laws.proofs.Only.{value-only}
use Rattle.std.specs.Prelude.{Ok, Err}
use Rattle.answers.specs.declared.refusal.Refusal.{Refusal}
use Rattle.answers.specs.Refusal.{Answer, sent_of}
use Rattle.answers.proofs.Laws.Refusal.{number_pos}
use Rattle.answers.specs.Outcome.{Outcome}
use Rattle.answers.proofs.Laws.Outcome.{outcome_only}
use Rattle.cluster.proofs.Theorems.{read_only}
use Rattle.lists.proofs.Theorems.{list_only, check_only}
use Rattle.members.proofs.Drawable.{drawn-only}
use Rattle.table.proofs.Theorems.{build-only}
use Rattle.table.proofs.Changing.RescoredTables.{rescore-only}
use Rattle.drawing.proofs.Laws.Draw.{drawn_text-only}
use Rattle.gel.specs.Import.{Imported}
use Rattle.demands.specs.OneOutcome.{Only, In, Imports, OneOutcome}

-- an answer with the room afterwards, whatever the operation
room-only : (o : Outcome (List ℕ)) → Only (In o)
room-only o x y p q =
    let e = outcome_only x.0 y.0 x.1 y.1 p q in
    ap₂ (λ (a : Answer) (l : List ℕ). (a, l)) e.0 e.1

-- a success isn't a refusal
apart : (n : ℕ) (f : Refusal) → ◌≡◌ {A = Answer} (Ok n) (Err f) → ⊥
apart n f e = number_pos f (sym (ap (λ (a : Answer). (sent_of a).number) e))

import_only : (o : Outcome Imported) → Only (Imports o)
import_only o (Ok x, room) (Ok y, left) p q =
    let e = outcome_only (Ok x.records) (Ok y.records) _ _ p q in
    ap₂ (λ (a : Answer) (i : Imported). (Ok (record { records = (sent_of a).told; unread = i.unread }), i.room)) e.0 e.1
import_only o (Err f, room) (Err g, left) p q =
    let e = outcome_only (Err f) (Err g) _ _ p q in let same = e.0 in let k : f ≡ g = cc in
    ap₂ (λ (f : Refusal) (i : Imported). (Err f, i.room)) k e.1
import_only o (Ok x, room) (Err g, left) p q = absurd (apart _ g (outcome_only (Ok x.records) (Err g) _ _ p q).0)
import_only o (Err f, room) (Ok y, left) p q = absurd (apart _ f (sym (outcome_only (Err f) (Ok y.records) _ _ p q).0))

pub one_outcome : OneOutcome
one_outcome = record {
  is_inside = λ a b. value-only;
  is_strict = λ a b. value-only;
  is_apart = λ a b. value-only;
  size = λ c. value-only;
  is_single = λ c. value-only;
  highest = λ c. value-only;
  lowest = λ c. value-only;
  signed_of = λ n. value-only;
  unsigned_of = λ z. value-only;
  signed_long_of = λ n. value-only;
  unsigned_long_of = λ z. value-only;
  number_of = λ f. value-only;
  position_of = λ f. value-only;
  is_scored = λ s. value-only;
  broken_rule = λ c z s spare. value-only;
  is_score = λ z s. value-only;
  is_kept = λ u. value-only;
  read_record = read_only;
  write_record = λ r room. room-only _;
  read_list = list_only narrow;
  check_list = check_only narrow;
  import_sheet = λ s room. import_only _;
  unread_of = λ r. value-only;
  zero_table = value-only;
  is_fit = λ t. value-only;
  place_of = λ t c. value-only;
  leaf_set = λ t. value-only;
  is_marked = λ low high i. value-only;
  is_tree = λ xs C d. value-only;
  drawn_tree = drawn-only narrow;
  build = build-only narrow;
  rescore = rescore-only narrow;
  empty = value-only;
  add = λ t bytes. value-only;
  add_decimal = λ t n. value-only;
  put = λ bytes room. room-only _;
  tree = λ t room. room-only _;
  drawn_text = drawn_text-only narrow;
  text = λ t room. room-only _;
  line = λ l d room. room-only _;
  sheet_line = λ a m. value-only;
  ladlepine_build = λ l d. value-only;
  ladlepine_rescore = λ l d c z s times. value-only;
  ladlepine_import = λ s room. value-only;
}
