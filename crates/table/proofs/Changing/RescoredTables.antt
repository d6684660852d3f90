-- Rescoring any table (RULES 7 and 8).
--     rescore_accepts_iff                   a rescoring succeeds exactly for a fit table, a cluster with a row and a score
--     rescore_refuses_iff                   and gives a refusal exactly when it is the first that applies
--     rescore-refused                       else the table is as it was given
--     new_count                             a new table has as many rows
--     new_keeps_others                      in a new table, no row changes that doesn't contain the rescored cluster
--     rescore_keeps_others                  nor in what any rescoring hands back
--     rescore-only                          two outcomes that the promise of a rescoring allows are equal
-- Assumes nothing.
use mathlib.Core.Path.{◌≡◌, refl, sym, ap, ap₂, ◌∙◌, subst}
use mathlib.Core.Logic.{◌↔◌}
use mathlib.Core.Bool.{Bool, true, false, true≢false}
use mathlib.Core.Option.{Option, none, some}
use mathlib.Core.List.{List, [], ◌∷◌, map}
use Prim.Native.Nat.{ℕ, zero, suc, ◌<◌}
use native.Mathlib.Decide.{ℕ_discrete}
use native.Mathlib.Omega.{arith}
use lib.Dec.{T, T_not}
use lib.IntN.{ℤ}
use lib.ListN.{length, length-map}
use Rattle.laws.specs.Cluster.{inside}
use Rattle.laws.specs.Limits.{Width}
use Rattle.laws.specs.Row.{Row}
use Rattle.laws.proofs.Down.{down_length}
use Rattle.laws.proofs.Tests.{T-of-not}
use Rattle.answers.specs.Refusal.{Answer}
use Rattle.std.specs.Prelude.{Err}
use Rattle.answers.specs.declared.refusal.Refusal.{Refusal}
use Rattle.answers.specs.Outcome.{Outcome, outcome_of}
use Rattle.answers.specs.Reasons.{first_reason, First}
use Rattle.answers.specs.Refusal.{sent_of}
use Rattle.cluster.specs.Rule.{is_score}
use Rattle.answers.proofs.Laws.Outcome.{outcome_only, accepts_iff, refuses_iff}
use Rattle.trees.specs.Rows.{Entry, cl}
use Rattle.trees.specs.Result.{Result}
use Rattle.trees.specs.Rescored.{worked_out, put_score, again_if, again, rescored}
use Rattle.trees.proofs.Rescore.{put-cluster, put_other, rescored-clusters}
use Rattle.kept.specs.declared.table.Table.{Table}
use Rattle.kept.specs.View.{row_at, entry_at, entries_of, clusters_in}
use Rattle.kept.specs.Fit.{is_fit}
use Rattle.kept.specs.Rows.{has_row}
use Rattle.kept.proofs.Laws.View.{entries_table}
use Rattle.table.specs.declared.rescoring.Rescored.{Rescored}
use Rattle.table.specs.Rescore.{rescore_reasons, new_table, rescore_table}
use Rattle.table.proofs.Changing.Rescore.{rescore_of}
use Rattle.table.proofs.Fitting.FitTables.{put_entry}

-- ---- which rescorings are taken, and why the others are refused

module _ (W : Width) (t : Table) (c : ℕ) (z : ℤ) (s : ℕ) where
  pub rescore_accepts_iff : ((rescore_table W t c z s).sent.number ≡ 0) ↔ (T (is_fit W t) × T (has_row t c) × T (is_score z s))
  rescore_accepts_iff =
      let by = accepts_iff (rescore_reasons W t c z s) t 0 (new_table W t c z s) in
      let number = ap (λ (o : Outcome Table). o.sent.number) (rescore_of W t c z s refl) in (
        λ e.
            let k = by.0 (sym number ∙ e) in
            (T-of-not (is_fit W t) k.0, T-of-not (has_row t c) k.1.0, T-of-not (is_score z s) k.1.1.0),
        λ k.
            number
            ∙ by.1 (λ n. T_not (is_fit W t) n k.0, (λ n. T_not (has_row t c) n k.1, (λ n. T_not (is_score z s) n k.2, tt))),
      )

  pub rescore_refuses_iff : (f : Refusal) → ((rescore_table W t c z s).sent ≡ sent_of (Err f)) ↔ First (rescore_reasons W t c z s) f
  rescore_refuses_iff f =
      let by = refuses_iff (rescore_reasons W t c z s) t 0 (new_table W t c z s) f in
      let sent = ap (λ (o : Outcome Table). o.sent) (rescore_of W t c z s refl) in
      (λ e. by.0 (sym sent ∙ e), λ h. sent ∙ by.1 h)

  -- a rescoring that isn't taken leaves the table as it is
  pub rescore-refused : ((rescore_table W t c z s).sent.number ≡ 0 → ⊥) → (rescore_table W t c z s).given ≡ t
  rescore-refused n = go (first_reason (rescore_reasons W t c z s)) refl
    where
      go : (x : Option Refusal) → first_reason (rescore_reasons W t c z s) ≡ x → (rescore_table W t c z s).given ≡ t
      go none e = absurd (n (ap (λ (o : Outcome Table). o.sent.number) (rescore_of W t c z s e)))
      go (some f) e = ap (λ (o : Outcome Table). o.given) (rescore_of W t c z s e)

-- ---- the rows that don't contain the rescored cluster

-- two lists of entries agree, place by place, in those that don't contain c
abbrev Agree : ℕ → List (Entry Result) → List (Entry Result) → Type 0
Agree c [] [] = Unit {0}
Agree c [] (x ∷ y) = ⊥
Agree c (e ∷ es) [] = ⊥
Agree c (e ∷ es) (x ∷ xs) = (inside c (cl e) ≡ false → x ≡ e) × Agree c es xs

module _ (F : Row → List (Entry Result) → Result) (c : ℕ) (z : ℤ) (s : ℕ) where
  rescored_agree : (es : List (Entry Result)) → Agree c es (again F c (map (put_entry c z s) es))
  rescored_agree [] = tt
  rescored_agree (e ∷ es) = go (inside c (put_score c z s e.row).cluster) refl (rescored_agree es)
    where
      same : inside c (put_score c z s e.row).cluster ≡ inside c (cl e)
      same = ap (inside c) (put-cluster c z s e.row)

      stays : inside c (cl e) ≡ false → put_entry c z s e ≡ e
      stays n = ap (λ (r : Row). record { row = r; val = e.val }) (put_other c z s e.row (λ h. subst T n h))

      go : (b : Bool) → inside c (put_score c z s e.row).cluster ≡ b → Agree c es (again F c (map (put_entry c z s) es))
          → Agree c (e ∷ es) (again_if F b (put_entry c z s e) (again F c (map (put_entry c z s) es)))
      go true q k = (λ n. absurd (true≢false (sym q ∙ same ∙ n)), k)
      go false q k = (stays, k)

agree_at : (c : ℕ) (t u : Table) (n : ℕ) → Agree c (entries_of t n) (entries_of u n) → (i : ℕ) → i < n
    → inside c (row_at t i).cluster ≡ false → entry_at u i ≡ entry_at t i
agree_at c t u zero k i h e = absurd (omega arith)
agree_at c t u (suc n) k i h e = go (ℕ_discrete i n) (agree_at c t u n k.1 i)
  where
    go : Dec (i ≡ n) → (i < n → inside c (row_at t i).cluster ≡ false → entry_at u i ≡ entry_at t i) → entry_at u i ≡ entry_at t i
    go (yes q) ih = ap (entry_at u) q ∙ k.0 (subst (λ (j : ℕ). inside c (row_at t j).cluster ≡ false) q e) ∙ ap (entry_at t) (sym q)
    go (no q) ih = ih (omega (arith, q)) e

module _ (W : Width) (t : Table) (c : ℕ) (z : ℤ) (s : ℕ) where
  abbrev entries : List (Entry Result)
  entries = entries_of t t.rows

  abbrev changed : List (Entry Result)
  changed = rescored W t.degree (clusters_in t) c z s entries

  pub new_count : (new_table W t c z s).rows ≡ t.rows
  new_count =
      sym (length-map changed cl)
      ∙ ap (λ (cs : List ℕ). length cs) (rescored-clusters W t.degree (clusters_in t) c z s entries)
      ∙ length-map entries cl
      ∙ down_length (entry_at t) t.rows

  entries_changed : entries_of (new_table W t c z s) t.rows ≡ changed
  entries_changed = ap (entries_of (new_table W t c z s)) (sym new_count) ∙ entries_table t.degree changed

  pub new_keeps_others : (i : ℕ) → i < t.rows → inside c (row_at t i).cluster ≡ false → entry_at (new_table W t c z s) i ≡ entry_at t i
  new_keeps_others =
      agree_at c t (new_table W t c z s) t.rows (subst (Agree c entries) (sym entries_changed)
      (rescored_agree (worked_out W t.degree (clusters_in t)) c z s entries))

-- whatever the outcome
pub rescore_keeps_others : (W : Width) (t : Table) (c : ℕ) (z : ℤ) (s : ℕ) (i : ℕ) → i < t.rows → inside c (row_at t i).cluster ≡ false
    → entry_at (rescore_table W t c z s).given i ≡ entry_at t i
rescore_keeps_others W t c z s i h e = go (first_reason (rescore_reasons W t c z s)) refl
  where
    go : (x : Option Refusal) → first_reason (rescore_reasons W t c z s) ≡ x → entry_at (rescore_table W t c z s).given i ≡ entry_at t i
    go none q = ap (λ (o : Outcome Table). entry_at o.given i) (rescore_of W t c z s q) ∙ new_keeps_others W t c z s i h e
    go (some f) q = ap (λ (o : Outcome Table). entry_at o.given i) (rescore_of W t c z s q)

-- ---- one outcome

pub rescore-only : (W : Width) (t : Table) (c : ℕ) (z : ℤ) (s : ℕ) (x y : Rescored)
    → outcome_of x.answer x.table ≡ rescore_table W t c z s → outcome_of y.answer y.table ≡ rescore_table W t c z s → x ≡ y
rescore-only W t c z s x y p q =
    let e = outcome_only x.answer y.answer x.table y.table p q in
    ap₂ (λ (a : Answer) (u : Table). record { answer = a; table = u }) e.0 e.1
