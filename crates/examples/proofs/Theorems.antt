-- THE EXAMPLES ARE RIGHT: P1 to P11 and B1 to B3 (RULES 11), bytes to text, by the operations' own specifications.
--     right_of_holds      a case that passes the test is right
--     examples_right      every case of the table is right
-- Assumes nothing.
use mathlib.Core.Path.{◌≡◌, refl, sym, ap, ◌∙◌, subst}
use mathlib.Core.Bool.{◌&&◌}
use mathlib.Core.Option.{none}
use mathlib.Core.List.{List, Memᴰ as Mem}
use Prim.Native.Nat.{ℕ}
use lib.Dec.{T}
use Rattle.laws.specs.Limits.{narrow, is_degree}
use Rattle.laws.specs.Lists.{every}
use Rattle.laws.proofs.Keep.{every→}
use Rattle.laws.proofs.Tests.{T_and, T-of-not, true_T}
use Rattle.laws.proofs.Width.{narrow_facts}
use Rattle.std.specs.Prelude.{Ok}
use Rattle.answers.specs.Outcome.{Outcome}
use Rattle.answers.specs.Reasons.{first_reason, NoneApplies}
use Rattle.answers.specs.Refusal.{sent_of}
use Rattle.answers.proofs.Laws.Reasons.{none_iff}
use Rattle.lists.specs.Accepted.{Bytes, Accepted}
use Rattle.lists.specs.Records.{rows_of}
use Rattle.lists.proofs.Theorems.{accepted_iff, accepted_facts}
use Rattle.kept.specs.declared.table.Table.{Table}
use Rattle.kept.specs.View.{table_of}
use Rattle.kept.specs.Fit.{is_fit}
use Rattle.table.specs.Build.{build_reasons}
use Rattle.table.proofs.Laws.Build.{build_of}
use Rattle.table.proofs.Theorems.{built_table_lem, build-fit}
use Rattle.examples.specs.Case.{Case}
use Rattle.examples.specs.Cases.{cases}
use Rattle.examples.specs.Told.{Told}
use Rattle.examples.specs.Right.{list_of, rescored_by, built_of, end_of, Changes, Right}
use Rattle.examples.proofs.Quick.{quick_built}
use Rattle.examples.proofs.Changed.{is_changed, changed→}
use Rattle.examples.proofs.Computed.{is_none, is_byte, takes, after, is_told, ends_in, quick_table, holds_from, holds, cases_hold}
use Rattle.examples.proofs.Shown.{none→, bytes→, rescored_is, told→}

-- ---- from the built table

record Ends (c : Case) (t : Table) (u : Outcome Table) : Type 0 where
  rescored : u.sent ≡ sent_of (Ok 0)
  changed : Changes t u.given c.changed
  told : Told u.given c.ending

ends_of_holds : (c : Case) (t : Table) → T (is_fit narrow t) → T (holds_from c t) → Ends c t (rescored_by c.rescoring t)
ends_of_holds c t fit h =
    let u = after c.rescoring t in
    let q = T_and (takes c.rescoring t) (ends_in c t u) h in
    let p = T_and (is_changed t u c.changed) (is_told u c.ending) q.1 in
    let new = rescored_is c.rescoring t fit q.0 in
    subst (Ends c t) (sym new.0) (record {
      rescored = refl;
      changed = changed→ t u c.changed p.0;
      told = told→ u new.1 c.ending p.1;
    })

-- ---- the theorems

module _ (c : Case) (h : T (holds c)) where
  abbrev l : List ℕ
  l = list_of c

  abbrev d : ℕ
  d = c.degree

  parts : T (is_none (first_reason (build_reasons narrow l d)) && every is_byte l) × T (holds_from c (quick_table c))
  parts = T_and (is_none (first_reason (build_reasons narrow l d)) && every is_byte l) (holds_from c (quick_table c)) h

  given : T (is_none (first_reason (build_reasons narrow l d))) × T (every is_byte l)
  given = T_and (is_none (first_reason (build_reasons narrow l d))) (every is_byte l) parts.0

  taken : first_reason (build_reasons narrow l d) ≡ none
  taken = none→ (first_reason (build_reasons narrow l d)) given.0

  byte : Bytes l
  byte = bytes→ l given.1

  passed : NoneApplies (build_reasons narrow l d)
  passed = (none_iff (build_reasons narrow l d)).0 taken

  degree : T (is_degree d)
  degree = T-of-not (is_degree d) passed.0

  accepted : Accepted narrow l
  accepted = (accepted_iff narrow l).0 passed.1

  quick_is : quick_table c ≡ (built_of c).given
  quick_is =
      ap (table_of d) (quick_built d (rows_of narrow l) (accepted_facts narrow l accepted narrow_facts byte))
      ∙ sym (built_table_lem narrow l d degree accepted)

  ends : Ends c (built_of c).given (end_of c)
  ends =
      ends_of_holds c (built_of c).given (build-fit narrow l d narrow_facts degree byte accepted)
      (subst (λ (t : Table). T (holds_from c t)) quick_is parts.1)

  pub right_of_holds : Right c
  right_of_holds = record {
    built = ap (λ (o : Outcome Table). o.sent) (build_of narrow l d taken);
    rescored = ends.rescored;
    changed = ends.changed;
    told = ends.told;
  }

pub examples_right : (c : Case) → Mem c cases → Right c
examples_right c m = right_of_holds c (every→ holds cases (true_T cases_hold) c m)
