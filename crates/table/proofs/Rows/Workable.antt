-- A table that may be worked out (`Workable` of `specs/Working.antt`): its rows, and the rows so far worked out again.
--     given-full, given-falls     its clusters are not empty, and fall
--     given-rules                 what was listed of a row keeps the record rules
--     cluster-word                a cluster is a word
--     again-fit-below, again_over_below     the first rows, worked out again, are fit, and the next row may be worked out over them
-- Assumes nothing.
use mathlib.Core.Path.{sym, ◌∙◌, subst}
use mathlib.Core.Logic.{◌≢◌}
use mathlib.Core.Bool.{false}
use mathlib.Core.List.Memᴰ
use mathlib.Core.List.{List, map}
use mathlib.Core.List.{Memᴰ as Mem}
use Prim.Native.Nat.{ℕ, suc, ◌-◌, ◌^◌, ◌≤◌, ◌<◌}
use native.Mathlib.Nat.{lt_of_lt_of_le}
use native.Mathlib.Omega.{arith}
use lib.Dec.{T}
use lib.ListN.{get_or}
use lib.Pow.{pow_mono}
use Rattle.laws.specs.Cluster.{inside}
use Rattle.laws.specs.Limits.{Width, word_values}
use Rattle.laws.specs.Orders.{Falling}
use Rattle.laws.specs.Row.{Row}
use Rattle.laws.specs.Widths.{WidthFacts, few}
use Rattle.laws.proofs.Width.{degree_range}
use Rattle.laws.proofs.Down.{down_length, mem_down, down_mem, down_falling}
use Rattle.cluster.specs.Rule.{Keeps, keeps_rules}
use Rattle.cluster.proofs.Laws.Rule.{rules→}
use Rattle.trees.specs.Rows.{Entry, cl}
use Rattle.trees.specs.Result.{Result}
use Rattle.trees.specs.Rescored.{worked_out, again}
use Rattle.kept.specs.declared.table.Table.{Table}
use Rattle.kept.specs.View.{row_at, entry_at, entries_of, clusters_in}
use Rattle.kept.specs.Fit.{fit_entry}
use Rattle.kept.proofs.Laws.Clusters.{clusters_are}
use Rattle.table.specs.Working.{Workable}
use Rattle.table.proofs.Fitting.AgainFit.{again-fit, again_over, Listed}
use Rattle.table.proofs.Fitting.KeepsFit.{Over}

module _ {W : Width} (facts : WidthFacts W) {given : Table} {c : ℕ} (w : Workable W given c) where
  abbrev d : ℕ
  d = given.degree

  abbrev cs : List ℕ
  cs = clusters_in given

  abbrev pub row_formula : Row → List (Entry Result) → Result
  row_formula = worked_out W given.degree (clusters_in given)

  -- ---- the rows as they are given

  pub given-rules : (i : ℕ) → i < given.rows → ((row_at given i).cluster < 2 ^ W.taxa)
      × Keeps (row_at given i).cluster (row_at given i).weight (row_at given i).state false
  given-rules i h = rules→ W (row_at given i) (w.rules i h)

  pub cluster-word : (i : ℕ) → i < given.rows → get_or given.clusters i 0 < word_values
  cluster-word i h = lt_of_lt_of_le (given-rules i h).0 (let most : 2 ^ W.taxa ≤ 2 ^ 64 = pow_mono facts.taxa in most)

  pub given-full : (x : ℕ) → Mem x (clusters_in given) → x ≢ 0
  given-full x m e =
      let q = mem_down _ given.rows x (subst (Mem x) (clusters_are given given.rows) m) in
      (given-rules q.0 q.1).1.has_taxon_lem (sym q.2 ∙ e)

  pub given-falls : (i : ℕ) → i ≤ given.rows → Falling (map cl (entries_of given i))
  given-falls i h =
      subst Falling (sym (clusters_are given i)) (down_falling _ i (λ a b p q. w.rising.up a b p (omega arith)))

  given-listed : (i : ℕ) → i ≤ given.rows → Listed W cs (entries_of given i)
  given-listed i h = record {
    falls = given-falls i h;
    listed = λ e m. let q = mem_down (entry_at given) i e m in
        subst (λ (x : Entry Result). Mem (cl x) cs) (sym q.2)
        (Memᴰ.map cl (down_mem (entry_at given) given.rows q.0 (omega (arith, q.1))));
    rules = λ e m. let q = mem_down (entry_at given) i e m in
        subst (λ (x : Entry Result). T (keeps_rules W x.row)) (sym q.2) (w.rules q.0 (omega (arith, q.1)));
  }

  given-others : (i : ℕ) → i ≤ given.rows → (e : Entry Result) → Mem e (entries_of given i)
      → (T (inside c (cl e)) → ⊥) → T (fit_entry W cs e)
  given-others i h e m n =
      let q = mem_down (entry_at given) i e m in
      subst (λ (x : Entry Result). T (fit_entry W cs x)) (sym q.2)
      (w.fit q.0 (omega (arith, q.1)) (λ t. n (subst (λ (x : Entry Result). T (inside c (cl x))) (sym q.2) t)))

  -- ---- the first i rows worked out again

  pub again-fit-below : (i : ℕ) → i ≤ given.rows → (x : Entry Result) → Mem x (again row_formula c (entries_of given i))
      → T (fit_entry W (clusters_in given) x)
  again-fit-below i h =
      again-fit W facts.counts d c cs (given-falls given.rows (omega arith)) given-full (entries_of given i) (given-listed i h)
      (subst (λ (n : ℕ). few (n - 1) (d - 1) ≤ W.length_max) (sym (down_length (entry_at given) i))
      (facts.tuples d (i - 1) (degree_range w.bounds.degree).1 (omega (arith, w.bounds.capped, w.bounds.filled)))) (given-others i h)

  pub again_over_below : (i : ℕ) → i < given.rows
      → Over W.count_max (clusters_in given) (row_at given i) (again row_formula c (entries_of given i))
  again_over_below i h =
      again_over W facts.counts d c cs (given-falls given.rows (omega arith)) given-full (entry_at given i) (entries_of given i)
      (given-listed (suc i) h) (again-fit-below i (omega arith))
