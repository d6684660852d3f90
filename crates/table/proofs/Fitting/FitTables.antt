-- Which tables are fit: a built table, and a fit table rescored (RULES 6).
--     InTable W d es P       es may be the rows of a table with the degree bound d, and P holds of each
--     carried                so may rows with the same clusters
--     table-fit              the table of fit rows is fit
--     fit-nonzero            none of fit rows is empty
--     again_table-fit        so is that of rows worked out again
--     put_entry, rescored-fit     a fit table, rescored, is fit
--     built-fit              a built table is fit
-- Assumes nothing.
use mathlib.Core.Path.{◌≡◌, refl, sym, ap, ◌∙◌, subst}
use mathlib.Core.Logic.{◌≢◌}
use mathlib.Core.Bool.{Bool, true, false, cond}
use mathlib.Core.List.Memᴰ
use mathlib.Core.List.{List, map}
use mathlib.Core.List.{Memᴰ as Mem}
use Prim.Native.Nat.{ℕ, ◌-◌}
use native.Mathlib.Omega.{arith}
use lib.Dec.{T, eqb}
use lib.IntN.{ℤ}
use lib.ListN.{length, length-map}
use Rattle.laws.specs.Cluster.{inside}
use Rattle.laws.specs.Limits.{Width}
use Rattle.laws.specs.Orders.{Falling}
use Rattle.laws.specs.Row.{Row}
use Rattle.laws.specs.Widths.{WidthFacts}
use Rattle.laws.proofs.Appended.{map-through}
use Rattle.laws.proofs.Cluster.{zero-inside}
use Rattle.laws.proofs.Down.{down_length, down_mem}
use Rattle.cluster.specs.Rule.{is_score, keeps_rules}
use Rattle.cluster.proofs.Laws.Rule.{score→keeps, rules→, →rules}
use Rattle.trees.specs.Rows.{Entry, cl}
use Rattle.trees.specs.Result.{Result}
use Rattle.trees.specs.Built.{built_table}
use Rattle.trees.specs.Rescored.{put_score, worked_out, again, rescored}
use Rattle.trees.proofs.Rescore.{put-cluster, put_other, again-clusters}
use Rattle.kept.specs.declared.table.Table.{Table}
use Rattle.kept.specs.Facts.{Bounded}
use Rattle.kept.specs.View.{entry_at, entries_of, clusters_in, table_of}
use Rattle.kept.specs.Fit.{fit_entry, is_fit}
use Rattle.table.specs.Rescore.{new_table}
use Rattle.table.proofs.Fitting.AgainFit.{Listed, again-fit}
use Rattle.kept.proofs.Laws.Fit.{fit-rules, fit→, is_fit→, →is_fit, fit-falls, fit-each, entries_rising}
use Rattle.kept.proofs.Laws.Blank.{blank_entry}
use Rattle.kept.proofs.Laws.View.{entries_table, table-past}
use Rattle.laws.proofs.Width.{degree_range}
use Rattle.table.proofs.Laws.Build.{Buildable, unworked_row, unworked_clusters, again-built}

-- ---- rows that may be made a table of

pub record InTable (W : Width) (d : ℕ) (es : List (Entry Result)) (P : Entry Result → Type 0) : Type 0 where
  pub bounds : Bounded W d (length es)
  pub falls : Falling (map cl es)
  pub each : (e : Entry Result) → Mem e es → P e

abbrev pub FitRows : Width → ℕ → List (Entry Result) → Type 0
FitRows W d es = InTable W d es (λ (e : Entry Result). T (fit_entry W (map cl es) e))

-- in their order, by the record rules
abbrev pub Rows : Width → ℕ → List (Entry Result) → Type 0
Rows W d es = InTable W d es (λ (e : Entry Result). T (keeps_rules W e.row))

carried : (W : Width) (d : ℕ) (es xs : List (Entry Result)) (P Q : Entry Result → Type 0) → map cl xs ≡ map cl es → InTable W d es P
    → ((x : Entry Result) → Mem x xs → Q x) → InTable W d xs Q
carried W d es xs P Q same k f = record {
  bounds = subst (Bounded W d) (sym count) k.bounds;
  falls = rw same k.falls;
  each = f;
}
  where
    count : length xs ≡ length es
    count = sym (length-map xs cl) ∙ ap (λ (cs : List ℕ). length cs) same ∙ length-map es cl

-- ---- the table of fit rows

pub table-fit : (W : Width) (d : ℕ) (es : List (Entry Result)) → FitRows W d es → T (is_fit W (table_of d es))
table-fit W d es f = →is_fit W t (record {
  bounds = f.bounds;
  rising = entries_rising t (rw (entries_table d es) f.falls);
  fit = λ i l. fit→ W (clusters_in t) (entry_at t i) (rw (entries_table d es)
      (f.each (entry_at t i) (subst (Mem (entry_at t i)) (entries_table d es) (down_mem (entry_at t) (length es) i l))));
  past = λ i l m. blank_entry t i (table-past d es i l);
})
  where
    t : Table
    t = table_of d es

-- ---- rows worked out again

nonzero-rows : (W : Width) (d : ℕ) (es : List (Entry Result)) → Rows W d es → (c : ℕ) → Mem c (map cl es) → c ≢ 0
nonzero-rows W d es k c m z =
    let q = Memᴰ.of_map cl es m in
    (rules→ W q.0.row (k.each q.0 q.1)).1.has_taxon_lem (q.2 ∙ z)

pub fit-nonzero : (W : Width) (d : ℕ) (es : List (Entry Result)) → FitRows W d es → (c : ℕ) → Mem c (map cl es) → c ≢ 0
fit-nonzero W d es k =
    nonzero-rows W d es
    (record { bounds = k.bounds; falls = k.falls; each = λ e m. fit-rules W (map cl es) e (k.each e m) })

module _ (W : Width) (facts : WidthFacts W) (d c : ℕ) (es : List (Entry Result)) (k : Rows W d es) where
  abbrev F : Row → List (Entry Result) → Result
  F = worked_out W d (map cl es)

  again-rows : ((e : Entry Result) → Mem e es → (T (inside c (cl e)) → ⊥) → T (fit_entry W (map cl es) e)) → FitRows W d (again F c es)
  again-rows f = carried W d es (again F c es) _ _ (again-clusters F c es) k (λ e m. rw (again-clusters F c es) (each e m))
    where
      listed : Listed W (map cl es) es
      listed = record { falls = k.falls; listed = λ e m. Memᴰ.map cl m; rules = k.each }

      each : (e : Entry Result) → Mem e (again F c es) → T (fit_entry W (map cl es) e)
      each =
          again-fit W facts.counts d c (map cl es) k.falls (nonzero-rows W d es k) es listed
          (facts.tuples d (length es - 1) (degree_range k.bounds.degree).1 (omega (arith, k.bounds.filled, k.bounds.capped))) f

  pub again_table-fit : ((e : Entry Result) → Mem e es → (T (inside c (cl e)) → ⊥) → T (fit_entry W (map cl es) e))
      → T (is_fit W (table_of d (again F c es)))
  again_table-fit f = table-fit W d (again F c es) (again-rows f)

-- ---- rescored

-- the new score in the row of c, beside the results as they were
abbrev pub put_entry : ℕ → ℤ → ℕ → Entry Result → Entry Result
put_entry c z s e = record { row = put_score c z s e.row; val = e.val }

module _ (W : Width) (c : ℕ) (z : ℤ) (s : ℕ) (score : T (is_score z s)) where
  pub put-rules : (r : Row) → T (keeps_rules W r) → T (keeps_rules W (put_score c z s r))
  put-rules r h = go (eqb r.cluster c)
    where
      go : (b : Bool) → T (keeps_rules W (cond b (record { cluster = r.cluster; weight = z; state = s }) r))
      go true =
          let q = rules→ W r h in
          →rules W (record { cluster = r.cluster; weight = z; state = s }) q.0
          (record { has_taxon_lem = q.1.has_taxon_lem; no_spare = refl; score = score→keeps z s score })
      go false = h

  put-clusters : (es : List (Entry Result)) → map cl (map (put_entry c z s) es) ≡ map cl es
  put-clusters = map-through (put_entry c z s) cl cl (λ e. put-cluster c z s e.row)

  module _ (d : ℕ) (es : List (Entry Result)) (k : FitRows W d es) where
    pub put-rows : Rows W d (map (put_entry c z s) es)
    put-rows = carried W d es (map (put_entry c z s) es) _ _ (put-clusters es) k (λ x m.
        let q = Memᴰ.of_map (put_entry c z s) es m in
        subst (λ (e : Entry Result). T (keeps_rules W e.row)) q.2
        (put-rules q.0.row (fit-rules W (map cl es) q.0 (k.each q.0 q.1))))

    -- the rows that don't contain c stay
    pub put_fit : (x : Entry Result) → Mem x (map (put_entry c z s) es) → (T (inside c (cl x)) → ⊥)
        → T (fit_entry W (map cl (map (put_entry c z s) es)) x)
    put_fit x m n =
        let q = Memᴰ.of_map (put_entry c z s) es m in
        let at : cl q.0 ≡ cl x = sym (put-cluster c z s q.0.row) ∙ ap cl q.2 in
        let out : T (inside c (cl q.0)) → ⊥ = λ t. n (subst (λ (y : ℕ). T (inside c y)) at t) in
        let same : q.0 ≡ x = ap (λ (r : Row). record { row = r; val = q.0.val }) (sym (put_other c z s q.0.row out)) ∙ q.2 in
        subst (λ (cs : List ℕ). T (fit_entry W cs x)) (sym (put-clusters es))
        (subst (λ (e : Entry Result). T (fit_entry W (map cl es) e)) same (k.each q.0 q.1))

    put-table-fit : WidthFacts W → T (is_fit W (table_of d (rescored W d (map cl es) c z s es)))
    put-table-fit facts =
        subst (λ (cs : List ℕ). T (is_fit W (table_of d (again (worked_out W d cs) c (map (put_entry c z s) es))))) (put-clusters es)
        (again_table-fit W facts d c (map (put_entry c z s) es) put-rows put_fit)

pub fit-rows : (W : Width) → WidthFacts W → (t : Table) → T (is_fit W t) → FitRows W t.degree (entries_of t t.rows)
fit-rows W facts t h =
    let f = is_fit→ W facts t h in
    let n = down_length (entry_at t) t.rows in
    record {
      bounds = subst (Bounded W t.degree) (sym n) f.bounds;
      falls = fit-falls W t f;
      each = fit-each W t f;
    }

pub rescored-fit : (W : Width) → WidthFacts W → (t : Table) (c : ℕ) (z : ℤ) (s : ℕ) → T (is_fit W t) → T (is_score z s)
    → T (is_fit W (new_table W t c z s))
rescored-fit W facts t c z s h score =
    put-table-fit W c z s score t.degree (entries_of t t.rows) (fit-rows W facts t h) facts

-- ---- built

module _ (W : Width) (facts : WidthFacts W) (d : ℕ) (rs : List Row) (k : Buildable W d rs) where
  accepted-rows : Rows W d (map unworked_row rs)
  accepted-rows = record {
    bounds = subst (Bounded W d) (sym (length-map rs unworked_row)) k.bounds;
    falls = rw (unworked_clusters rs) k.facts.falls;
    each = λ e m. let q = Memᴰ.of_map unworked_row rs m in
        subst (λ (x : Entry Result). T (keeps_rules W x.row)) q.2 (k.rules q.0 q.1);
  }

  pub built-fit : T (is_fit W (table_of d (built_table W d rs)))
  built-fit =
      subst (λ (es : List (Entry Result)). T (is_fit W (table_of d es))) (again-built facts d rs k.facts)
      (again_table-fit W facts d 0 (map unworked_row rs) accepted-rows (λ e m n. absurd (n (zero-inside (cl e)))))
