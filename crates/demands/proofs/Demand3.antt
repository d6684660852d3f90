-- DEMAND 3 IS MET: a rescored table is the fresh build of the changed list, and what a rescoring leaves alone.
--     fresh        over any width: after any changes the table is the build of the changed list
--     demand3      the demand
-- Assumes nothing.
use mathlib.Core.Path.{◌≡◌, refl, sym, ap, ◌∙◌, subst}
use mathlib.Core.Logic.{◌↔◌}
use mathlib.Core.Option.{Option, none, some}
use mathlib.Core.List.{List}
use Prim.Native.Nat.{ℕ, ◌≤◌, ◌<◌}
use native.Mathlib.Omega.{arith}
use lib.Dec.{T}
use lib.IntN.{ℤ}
use Rattle.laws.specs.Limits.{Width, narrow, is_degree, row_cap}
use Rattle.laws.specs.Row.{Row}
use Rattle.laws.specs.Widths.{WidthFacts}
use Rattle.laws.proofs.Tests.{T_false, T-of-not}
use Rattle.laws.proofs.Width.{narrow_facts}
use Rattle.answers.specs.declared.refusal.Refusal.{Refusal}
use Rattle.answers.specs.Reasons.{first_reason}
use Rattle.answers.specs.Outcome.{Outcome, ended}
use Rattle.answers.proofs.Laws.Reasons.{none_iff}
use Rattle.cluster.specs.Rule.{KeepsScore}
use Rattle.cluster.proofs.Theorems.{score_iff}
use Rattle.lists.specs.Accepted.{HasCluster}
use Rattle.trees.specs.Beneath.{Beneath}
use Rattle.trees.specs.Rescored.{rescored}
use Rattle.kept.specs.declared.table.Table.{Table}
use Rattle.kept.specs.View.{entry_at, entries_of, clusters_in}
use Rattle.kept.specs.Fit.{is_fit}
use Rattle.kept.proofs.Laws.Blank.{blank_entry}
use Rattle.kept.proofs.Laws.Fit.{is_fit→}
use Rattle.kept.proofs.Laws.View.{table-past}
use Rattle.table.specs.Build.{build_table}
use Rattle.table.specs.Rescore.{rescore_reasons, new_table, rescore_table}
use Rattle.table.specs.Changes.{AcceptedBytes, change_all, rescore_all}
use Rattle.table.proofs.Changing.Changes.{changes_accepted}
use Rattle.table.proofs.Changing.Rescore.{rescore_of}
use Rattle.table.proofs.Changing.RescoredTables.{new_count, rescore_keeps_others}
use Rattle.table.proofs.Theorems.{built_rescores_iff, rescore_all_is_build}
use Rattle.demands.specs.Demands.{Demand3}

-- ---- what any rescoring leaves alone

-- what is so of the table given and, where the rescoring is taken, of the new one, is so of what is handed back
module _ (W : Width) (t : Table) (c : ℕ) (z : ℤ) (s : ℕ) where
  handed_back : (P : Table → Type 0) → P t → (T (is_fit W t) → P (new_table W t c z s)) → P (rescore_table W t c z s).given
  handed_back P stays new = go (first_reason (rescore_reasons W t c z s)) refl
    where
      given_is : {o : Option Refusal} → first_reason (rescore_reasons W t c z s) ≡ o
          → (ended o t 0 (new_table W t c z s)).given ≡ (rescore_table W t c z s).given
      given_is e = ap (λ (o : Outcome Table). o.given) (sym (rescore_of W t c z s e))

      go : (o : Option Refusal) → first_reason (rescore_reasons W t c z s) ≡ o → P (rescore_table W t c z s).given
      go (some f) e = subst P (given_is e) stays
      go none e =
          subst P (given_is e) (new (T-of-not (is_fit W t) ((none_iff (rescore_reasons W t c z s)).0 e).0))

  abbrev changed : List Beneath
  changed = rescored W t.degree (clusters_in t) c z s (entries_of t t.rows)

  new_past : WidthFacts W → (i : ℕ) → t.rows ≤ i → i < row_cap → T (is_fit W t) → entry_at (new_table W t c z s) i ≡ entry_at t i
  new_past facts i h m fit =
      blank_entry (new_table W t c z s) i (table-past t.degree changed i (omega (arith, new_count W t c z s)))
      ∙ sym ((is_fit→ W facts t fit).past i h m)

-- ---- the demand

module _ {W : Width} (facts : WidthFacts W) {l : List ℕ} (d : ℕ) (degree : T (is_degree d)) (xs : List Row)
    (a : AcceptedBytes W l) where
  pub fresh : rescore_all W (build_table W l d).given xs ≡ (build_table W (change_all W l xs) d).given
  fresh = rescore_all_is_build facts d degree l xs a

  takes : (c : ℕ) (z : ℤ) (s : ℕ)
      → ((rescore_table W (rescore_all W (build_table W l d).given xs) c z s).sent.number ≡ 0)
      ↔ (HasCluster W (change_all W l xs) c × KeepsScore z s)
  takes c z s =
      let by = built_rescores_iff facts d degree (changes_accepted facts xs a) c z s in
      let same = ap (λ (t : Table). (rescore_table W t c z s).sent.number) fresh in (
        λ e. let q = by.0 (sym same ∙ e) in (q.0, (score_iff z s).0 q.1),
        λ q. same ∙ by.1 (q.0, (score_iff z s).1 q.1),
      )

pub demand3 : Demand3
demand3 = record {
  fresh = λ l d xs a q. fresh narrow_facts d q xs a;
  taken = λ l d xs c z s a q. takes narrow_facts d q xs a c z s;
  others = λ t c z s i h n. rescore_keeps_others narrow t c z s i h (T_false _ n);
  degree = λ t c z s. handed_back narrow t c z s (λ u. u.degree ≡ t.degree) refl (λ _. refl);
  rows = λ t c z s. handed_back narrow t c z s (λ u. u.rows ≡ t.rows) refl (λ _. new_count narrow t c z s);
  past = λ t c z s i h m. handed_back narrow t c z s (λ u. entry_at u i ≡ entry_at t i) refl (new_past narrow t c z s narrow_facts i h m);
}
