-- The leaf set of any fit table: where none is scored, and after a rescoring.
--     none-scored, no_tree     no taxon and no row, and so no tree
--     rescored                 which taxa a rescoring leaves
-- Assumes nothing.
use mathlib.Core.Path.{◌≡◌, refl, sym, ap, ◌∙◌, subst}
use mathlib.Core.Logic.{inl, inr, ◌↔◌}
use mathlib.Core.Option.{some}
use mathlib.Core.List.{List, Memᴰ as Mem}
use Prim.Native.Nat.{ℕ, ◌^◌, ◌<◌}
use native.Mathlib.Decide.{ℕ_discrete}
use native.Mathlib.Omega.{arith}
use lib.Dec.{T}
use lib.IntN.{ℤ}
use Rattle.laws.specs.Cluster.{inside}
use Rattle.laws.specs.Limits.{narrow}
use Rattle.laws.specs.Orders.{down_to}
use Rattle.laws.specs.Row.{Row, is_scored}
use Rattle.laws.proofs.Down.{mem_down}
use Rattle.laws.proofs.Tests.{T_true, T_false}
use Rattle.answers.specs.declared.refusal.Refusal.TheVariants.{NoTree}
use Rattle.answers.specs.Outcome.{Outcome}
use Rattle.answers.specs.Reasons.{first_reason}
use Rattle.trees.specs.Rescored.{put_score}
use Rattle.trees.proofs.Formula.Rows.{leaves_none}
use Rattle.trees.proofs.Rescore.{put_same, put_unlike}
use Rattle.kept.specs.declared.table.Table.{Table}
use Rattle.kept.specs.View.{row_at}
use Rattle.kept.specs.Facts.{FitTable}
use Rattle.kept.specs.Fit.{is_fit}
use Rattle.kept.specs.Rows.{shown_rows, leaf_set}
use Rattle.kept.proofs.Laws.Rows.{all_shown, place_at, place_none, leaf_set_iff}
use Rattle.members.specs.Draw.{leaf_row, has_tree, draw_reasons}
use Rattle.members.proofs.Laws.Draw.{has_tree→}
use Rattle.table.specs.Rescore.{rescore_table}
use Rattle.drawing.specs.Draw.{draw_tree, draw_text}
use Rattle.drawing.proofs.Laws.Draw.{tree-refused, text-refused}
use Rattle.demands.specs.Sending.{sent_back}
use Rattle.demands.specs.Refusals.{HasRow}
use Rattle.demands.specs.Lanes.{TaxonAfter}
use Rattle.demands.proofs.Demand1.{demand1}
use Rattle.demands.proofs.Demand3.{demand3}
use Rattle.demands.proofs.Reworks.{reworks}

-- all rows of a fit table are shown
fit_shown : (t : Table) → FitTable narrow t → shown_rows t ≡ t.rows
fit_shown t fit = all_shown t fit.bounds.capped

-- ---- none scored

module _ (t : Table) (fit : FitTable narrow t) (none : (i : ℕ) → i < t.rows → T (is_scored (row_at t i)) → ⊥) where
  no_taxon : leaf_set t ≡ 0
  no_taxon = leaves_none (down_to (row_at t) (shown_rows t)) unscored
    where
      unscored : (r : Row) → Mem r (down_to (row_at t) (shown_rows t)) → T (is_scored r) → ⊥
      unscored r m h =
          let q = mem_down (row_at t) (shown_rows t) r m in
          none q.0 (omega (arith, q.1, fit_shown t fit)) (subst (λ (x : Row). T (is_scored x)) q.2 h)

  no_row : leaf_row t ≡ t.rows
  no_row = place_none t (leaf_set t) unlisted ∙ fit_shown t fit
    where
      unlisted : leaf_row t < shown_rows t → ⊥
      unlisted h =
          (fit.fit (leaf_row t) (omega (arith, h, fit_shown t fit))).rules.has_taxon_lem (place_at t (leaf_set t) h ∙ no_taxon)

  pub none-scored : (leaf_set t ≡ 0) × (leaf_row t ≡ t.rows)
  none-scored = (no_taxon, no_row)

  why : first_reason (draw_reasons narrow t) ≡ some NoTree
  why =
      let is_fit_lem = T_true (is_fit narrow t) ((demand1.is_fit_lem t).1 fit) in
      rw (is_fit_lem, T_false (has_tree t) (λ h. omega (arith, (has_tree→ t h).0, no_row))) refl

  pub no_tree : (room : List ℕ) → ((draw_tree narrow t room).sent ≡ sent_back 7 0) × ((draw_text narrow t room).sent ≡ sent_back 7 0)
  no_tree room = (
    ap (λ (o : Outcome (List ℕ)). o.sent) (sym (tree-refused narrow t room why)),
    ap (λ (o : Outcome (List ℕ)). o.sent) (sym (text-refused narrow t room why)),
  )

-- ---- after a rescoring

module _ (t : Table) (c : ℕ) (z : ℤ) (s : ℕ) (taken : (rescore_table narrow t c z s).sent.number ≡ 0) (x : ℕ) where
  abbrev u : Table
  u = (rescore_table narrow t c z s).given

  new_row : (i : ℕ) → i < t.rows → row_at u i ≡ put_score c z s (row_at t i)
  new_row = reworks.new_score t c z s taken

  rows_shown : shown_rows u ≡ t.rows
  rows_shown = fit_shown u (reworks.fit t c z s taken) ∙ demand3.rows t c z s

  named : HasRow t c
  named = ((demand1.rescore t c z s).taken.0 taken).1

  to_row : (i : ℕ) → i < t.rows → T (is_scored (row_at u i)) → T (inside (2 ^ x) (row_at u i).cluster) → TaxonAfter t c s x
  to_row i h sc within = go (ℕ_discrete (row_at t i).cluster c)
    where
      go : Dec ((row_at t i).cluster ≡ c) → TaxonAfter t c s x
      go (yes e) =
          let is = new_row i h ∙ put_same c z s (row_at t i) e in inl (
            subst (λ (r : Row). T (is_scored r)) is sc,
            subst (λ (y : ℕ). T (inside (2 ^ x) y)) e (subst (λ (r : Row). T (inside (2 ^ x) r.cluster)) is within),
          )
      go (no n) =
          let is = new_row i h ∙ put_unlike c z s (row_at t i) n in inr (
            i,
            h,
            n,
            subst (λ (r : Row). T (is_scored r)) is sc,
            subst (λ (r : Row). T (inside (2 ^ x) r.cluster)) is within,
          )

  abbrev Given : Type 0
  Given = (i : ℕ) × (i < shown_rows u) × T (is_scored (row_at u i)) × T (inside (2 ^ x) (row_at u i).cluster)

  given_by : (i : ℕ) → i < t.rows → (r : Row) → row_at u i ≡ r → T (is_scored r) → T (inside (2 ^ x) r.cluster) → Given
  given_by i h r e sc within = (
    i,
    omega (arith, h, rows_shown),
    subst (λ (q : Row). T (is_scored q)) (sym e) sc,
    subst (λ (q : Row). T (inside (2 ^ x) q.cluster)) (sym e) within,
  )

  from_row : TaxonAfter t c s x → Given
  from_row (inl q) =
      let i = named.0 in
      given_by i named.1 (record { cluster = (row_at t i).cluster; weight = z; state = s })
      (new_row i named.1 ∙ put_same c z s (row_at t i) named.2) q.0
      (subst (λ (y : ℕ). T (inside (2 ^ x) y)) (sym named.2) q.1)
  from_row (inr q) =
      given_by q.0 q.1 (row_at t q.0) (new_row q.0 q.1 ∙ put_unlike c z s (row_at t q.0) q.2) q.3 q.4

  pub rescored : T (inside (2 ^ x) (leaf_set (rescore_table narrow t c z s).given)) ↔ TaxonAfter t c s x
  rescored = (
    λ h. let q = (leaf_set_iff u x).0 h in to_row q.0 (omega (arith, q.1, rows_shown)) q.2 q.3,
    λ q. (leaf_set_iff u x).1 (from_row q),
  )
