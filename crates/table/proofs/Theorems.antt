-- What the rules demand of tables (RULES 12), each under one name, over any width. Demand 2, what a row of a built table holds, stands in
-- the definition of a build (`specs/Build.antt`) and in the crate `trees` (`proofs/Theorems.antt`). Which lists are taken, in the rules'
-- words, and that the rows of a list are its records: the crate `lists` (`proofs/Theorems.antt`).
--   demand 1, which lists are taken
--     build_accepts_iff                              a build succeeds exactly for the accepted lists and the degree bounds 3 to 5
--     build_refuses_iff                              and gives a refusal exactly when it is the first that applies
--     build_of_records                               the order of records plays no part
--     built_table_lem                                    what a successful build gives
--     build-fit                                      the built table of an accepted list is fit
--   demand 3, rescoring
--     rescore_accepts_iff (Changing/RescoredTables)  a rescoring succeeds exactly for a fit table, a cluster with a row and a score
--     rescore_refuses_iff (Changing/RescoredTables)  and gives a refusal exactly when it is the first that applies
--     rescored-fit (Fitting/FitTables)               a fit table, rescored, is fit
--     rescore_keeps_others (Changing/RescoredTables) in any table, no row changes that doesn't contain the rescored cluster
--     built_rescores_iff                             in the built table of a list: exactly for the cluster of a record and a score
--     rescore_is_fresh-build                         and what is given is the build of the list with that record rewritten
--     rescore_all_is_build                           and so on, for any changes one after another, taken or not
--     changes_accepted (Changing/Changes)            the list so changed is accepted
--   strict marking, one outcome for every input
--     build-only                                     `build`
--     rescore-only (Changing/RescoredTables)         `rescore`
--     value-only (`laws`, Only.antt)          `zero_table`, `is_fit`, `place_of`, `leaf_set`: the promise is an equation to a value
-- Definitions of changes and of rescoring once and again (`changed_bytes`, `change_all`, `rescore_all`): `specs/Changes.antt`.
-- Assumes nothing.
use mathlib.Core.Path.{◌≡◌, refl, sym, ap, ap₂, ◌∙◌, subst}
use mathlib.Core.Logic.{◌↔◌}
use mathlib.Core.Bool.{Bool, true, false, cond}
use mathlib.Core.List.{List, [], ◌∷◌, map}
use Prim.Native.Nat.{ℕ}
use lib.Dec.{T, T_not}
use lib.IntN.{ℤ}
use Rattle.laws.specs.Limits.{Width, is_degree}
use Rattle.laws.specs.Lists.{elem}
use Rattle.laws.specs.Row.{Row}
use Rattle.laws.specs.Widths.{WidthFacts}
use Rattle.laws.proofs.Tests.{T_true, true_T, T-of-not}
use Rattle.answers.specs.Refusal.{Answer}
use Rattle.std.specs.Prelude.{Ok, Err}
use Rattle.answers.specs.declared.refusal.Refusal.{Refusal}
use Rattle.answers.specs.Outcome.{Outcome, outcome_of}
use Rattle.answers.specs.Reasons.{First}
use Rattle.answers.specs.Refusal.{sent_of}
use Rattle.cluster.specs.Rule.{is_score}
use Rattle.answers.proofs.Laws.Outcome.{outcome_only, accepts_iff, refuses_iff}
use Rattle.answers.proofs.Laws.Reasons.{none_iff}
use Rattle.lists.specs.Accepted.{Bytes, Accepted, HasCluster, RecordsAmong}
use Rattle.lists.specs.Records.{rows_of}
use Rattle.lists.proofs.Laws.Records.{cluster_iff}
use Rattle.lists.proofs.Theorems.{accepted_iff, accepted_facts, rows_of-records}
use Rattle.trees.specs.Rows.{Entry, clusters_of, cl}
use Rattle.trees.specs.Result.{Result}
use Rattle.trees.specs.Built.{built_result, built_table}
use Rattle.trees.specs.Rescored.{put_score, rescored}
use Rattle.trees.proofs.Theorems.{rescore_is_build}
use Rattle.kept.specs.declared.table.Table.{Table}
use Rattle.kept.specs.View.{table_of, zero_table}
use Rattle.kept.specs.Fit.{is_fit}
use Rattle.kept.specs.Rows.{has_row}
use Rattle.kept.proofs.Laws.View.{entries_table}
use Rattle.table.specs.declared.making.Built.{Built}
use Rattle.table.specs.Build.{build_reasons, build_table}
use Rattle.table.specs.Rescore.{new_table, rescore_table}
use Rattle.table.specs.Changes.{AcceptedBytes, first_place, is_taken, changed_bytes, change_one, change_all, rescore_all}
use Rattle.table.proofs.Changing.Changed.{changed-accepted, changed-rows}
use Rattle.table.proofs.Changing.Changes.{place-cluster, taken-place, taken_iff, change_accepted}
use Rattle.table.proofs.Changing.Rescore.{rescore_done}
use Rattle.table.proofs.Changing.RescoredTables.{rescore_accepts_iff, rescore-refused}
use Rattle.table.proofs.Fitting.FitTables.{built-fit}
use Rattle.table.proofs.Laws.Build.{build_of, buildable, clusters_of-rows}

-- ---- demand 1: which lists are taken

module _ (W : Width) (l : List ℕ) (d : ℕ) where
  pub build_accepts_iff : ((build_table W l d).sent.number ≡ 0) ↔ (T (is_degree d) × Accepted W l)
  build_accepts_iff =
      let by = accepts_iff (build_reasons W l d) zero_table 0 (table_of d (built_table W d (rows_of W l))) in
      let number = ap (λ (o : Outcome Table). o.sent.number) (build_of W l d refl) in (
        λ e. let k = by.0 (sym number ∙ e) in (T-of-not (is_degree d) k.0, (accepted_iff W l).0 k.1),
        λ k. number ∙ by.1 (λ n. T_not (is_degree d) n k.0, (accepted_iff W l).1 k.1),
      )

  pub build_refuses_iff : (f : Refusal) → ((build_table W l d).sent ≡ sent_of (Err f)) ↔ First (build_reasons W l d) f
  build_refuses_iff f =
      let by = refuses_iff (build_reasons W l d) zero_table 0 (table_of d (built_table W d (rows_of W l))) f in
      let sent = ap (λ (o : Outcome Table). o.sent) (build_of W l d refl) in
      (λ e. by.0 (sym sent ∙ e), λ h. sent ∙ by.1 h)

  pub build-only : (x y : Built) → outcome_of x.answer x.table ≡ build_table W l d → outcome_of y.answer y.table ≡ build_table W l d
      → x ≡ y
  build-only x y p q =
      let e = outcome_only x.answer y.answer x.table y.table p q in
      ap₂ (λ (a : Answer) (t : Table). record { answer = a; table = t }) e.0 e.1

  build_done : T (is_degree d) → Accepted W l → build_table W l d ≡ outcome_of (Ok 0) (table_of d (built_table W d (rows_of W l)))
  build_done degree a =
      build_of W l d ((none_iff (build_reasons W l d)).1 (λ n. T_not (is_degree d) n degree, (accepted_iff W l).1 a))

  pub built_table_lem : T (is_degree d) → Accepted W l → (build_table W l d).given ≡ table_of d (built_table W d (rows_of W l))
  built_table_lem degree a = ap (λ (o : Outcome Table). o.given) (build_done degree a)

  pub build-fit : WidthFacts W → T (is_degree d) → Bytes l → Accepted W l → T (is_fit W (build_table W l d).given)
  build-fit facts degree byte a =
      rw (built_table_lem degree a) (built-fit W facts d (rows_of W l) (buildable facts degree byte a))

-- the order of records plays no part
pub build_of_records : (W : Width) (l m : List ℕ) (d : ℕ) → T (is_degree d) → Accepted W l → Accepted W m
    → RecordsAmong W l m → RecordsAmong W m l → build_table W l d ≡ build_table W m d
build_of_records W l m d degree a b there back =
    build_done W l d degree a
    ∙ ap (λ (rs : List Row). outcome_of (Ok 0) (table_of d (built_table W d rs))) (rows_of-records W l m a b there back)
    ∙ sym (build_done W m d degree b)

-- ---- demand 3: rescoring a built table

module _ {W : Width} (facts : WidthFacts W) {l : List ℕ} (d : ℕ) (degree : T (is_degree d)) (k : AcceptedBytes W l) where
  abbrev rows : List Row
  rows = rows_of W l

  abbrev built : Table
  built = (build_table W l d).given

  clusters_are : map cl (built_table W d rows) ≡ clusters_of rows
  clusters_are = clusters_of-rows (λ (r : Row). built_result W d rows r) rows

  has_row_iff : (c : ℕ) → T (has_row built c) ↔ HasCluster W l c
  has_row_iff c =
      let same = ap (λ (t : Table). has_row t c) (built_table_lem W l d degree k.accepted)
      ∙ ap (λ (x : List (Entry Result)). elem c (map cl x)) (entries_table d (built_table W d rows))
      ∙ ap (elem c) clusters_are in
      (λ h. (cluster_iff W l c).0 (subst T same h), λ q. subst T (sym same) ((cluster_iff W l c).1 q))

  module _ (c : ℕ) (z : ℤ) (s : ℕ) where
    pub built_rescores_iff : ((rescore_table W (build_table W l d).given c z s).sent.number ≡ 0) ↔ (HasCluster W l c × T (is_score z s))
    built_rescores_iff = (to, from)
      where
        to : (rescore_table W built c z s).sent.number ≡ 0 → HasCluster W l c × T (is_score z s)
        to e = let q = (rescore_accepts_iff W built c z s).0 e in ((has_row_iff c).0 q.1, q.2)

        from : HasCluster W l c × T (is_score z s) → (rescore_table W built c z s).sent.number ≡ 0
        from q =
            (rescore_accepts_iff W built c z s).1 (build-fit W l d facts degree k.byte k.accepted, (has_row_iff c).1 q.0, q.1)

    module _ (q : HasCluster W l c) (score : T (is_score z s)) where
      abbrev after : List ℕ
      after = changed_bytes W l q.0 z s

      after_rows : map (put_score c z s) rows ≡ rows_of W after
      after_rows =
          ap (λ (x : ℕ). map (put_score x z s) rows) q.2
          ∙ sym (changed-rows facts k.byte k.accepted q.0 z s q.1 score)

      new_table_is : new_table W built c z s ≡ (build_table W after d).given
      new_table_is =
          ap (λ (t : Table). new_table W t c z s) (built_table_lem W l d degree k.accepted)
          ∙ ap (λ (x : List (Entry Result)). table_of d (rescored W d (map cl x) c z s x)) (entries_table d (built_table W d rows))
          ∙ ap (λ (cs : List ℕ). table_of d (rescored W d cs c z s (built_table W d rows))) clusters_are
          ∙ ap (table_of d) (rescore_is_build W d c z s rows facts.counts (accepted_facts W l k.accepted facts k.byte))
          ∙ ap (λ (rs : List Row). table_of d (built_table W d rs)) after_rows
          ∙ sym (built_table_lem W after d degree (changed-accepted facts k.byte k.accepted q.0 z s q.1 score))

      pub rescore_is_fresh-build : rescore_table W (build_table W l d).given c z s
          ≡ outcome_of (Ok 0) (build_table W (changed_bytes W l q.0 z s) d).given
      rescore_is_fresh-build =
          sym (rescore_done W built c z s (T_true _ (build-fit W l d facts degree k.byte k.accepted))
          (T_true _ ((has_row_iff c).1 q)) (T_true _ score) (sym new_table_is))

-- ---- demand 3: one rescoring after another

module _ {W : Width} (facts : WidthFacts W) (d : ℕ) (degree : T (is_degree d)) where
  rescore-one : (l : List ℕ) (x : Row) → AcceptedBytes W l
      → (rescore_table W (build_table W l d).given x.cluster x.weight x.state).given ≡ (build_table W (change_one W l x) d).given
  rescore-one l x k = go (is_taken W l x) refl
    where
      c : ℕ
      c = x.cluster

      t : Table
      t = (build_table W l d).given

      changed_if : Bool → Table
      changed_if b = (build_table W (cond b (changed_bytes W l (first_place W l c) x.weight x.state) l) d).given

      go : (b : Bool) → is_taken W l x ≡ b → (rescore_table W t c x.weight x.state).given ≡ changed_if (is_taken W l x)
      go true e =
          let q = taken-place W l x (true_T e) in
          let at : HasCluster W l c = (first_place W l c, q.0, place-cluster W l c q.0) in
          ap (λ (o : Outcome Table). o.given) (rescore_is_fresh-build facts d degree k c x.weight x.state at q.1)
          ∙ ap changed_if (sym e)
      go false e =
          rescore-refused W t c x.weight x.state
          (λ r. subst T e ((taken_iff W l x).1 ((built_rescores_iff facts d degree k c x.weight x.state).0 r)))
          ∙ ap changed_if (sym e)

  pub rescore_all_is_build : (l : List ℕ) (xs : List Row) → AcceptedBytes W l
      → rescore_all W (build_table W l d).given xs ≡ (build_table W (change_all W l xs) d).given
  rescore_all_is_build l [] k = refl
  rescore_all_is_build l (x ∷ xs) k =
      ap (λ (t : Table). rescore_all W t xs) (rescore-one l x k)
      ∙ rescore_all_is_build (change_one W l x) xs (change_accepted facts x k)
