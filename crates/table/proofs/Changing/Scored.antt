-- A new weight and state stored in the row of a cluster: the table that `rescore` has worked out again (`src/rescoring.rt`).
--     row_missing, row_listed, row_found     what the code's look-up tells
--     with_score t i z s       the table t with the weight z and the state s in row i
--     score_entries           its rows are those of `put_score` (RULES 7)
--     score_workable          its rows may be worked out again
--     score_done              and the table so worked out is the rescored one
-- Assumes nothing.
use mathlib.Core.Path.{◌≡◌, sym, ap, ap₂, ◌∙◌, subst}
use mathlib.Core.Logic.{◌≢◌}
use mathlib.Core.Bool.{Bool, true, false, cond}
use mathlib.Core.List.{List, map}
use Prim.Native.Nat.{ℕ, ◌≤◌, ◌<◌}
use native.Mathlib.Decide.{dec_lt, ℕ_discrete}
use native.Mathlib.Omega.{arith}
use borrow.Author.Tests.{eq-eqb, ne_eqb, lt-ltb, le-ltb}
use lib.Dec.{T}
use lib.IntN.{ℤ, pos}
use lib.ListN.{get_or, set, length-set}
use lib.Seq.{get_or-set_same, get_or-set_other}
use Rattle.laws.specs.Cluster.{inside}
use Rattle.laws.specs.Limits.{Width, row_cap}
use Rattle.laws.specs.Widths.{WidthFacts}
use Rattle.laws.proofs.Cluster.{inside_refl}
use Rattle.laws.proofs.Down.{down_ext, down_map}
use Rattle.cluster.specs.Rule.{is_score, keeps_rules}
use Rattle.cluster.proofs.Laws.Rule.{→rules}
use Rattle.trees.specs.Rows.{Entry}
use Rattle.trees.specs.Result.{Result}
use Rattle.trees.specs.Rescored.{worked_out, again}
use Rattle.kept.specs.declared.table.Table.{Table}
use Rattle.kept.specs.View.{row_at, entry_at, entries_of, clusters_in, table_of}
use Rattle.kept.specs.Fit.{fit_entry, is_fit}
use Rattle.kept.specs.Rows.{place_of, has_row}
use Rattle.kept.specs.Arrays.{Sized}
use Rattle.kept.specs.Facts.{FitTable}
use Rattle.kept.proofs.Laws.Blank.{entry_empty}
use Rattle.kept.proofs.Laws.Fit.{is_fit→, →fit}
use Rattle.kept.proofs.Laws.Clusters.{clusters_are}
use Rattle.kept.proofs.Laws.Rows.{has_row_is, place_of_at}
use Rattle.table.specs.Rescore.{new_table}
use Rattle.table.specs.Tables.{table_in}
use Rattle.table.specs.Searched.{WordsIn}
use Rattle.table.specs.Working.{again_table, Workable}
use Rattle.table.proofs.Fitting.FitTables.{put_entry, put-rules}

-- ---- the row of the cluster, as the code looks it up

module _ (t : Table) (capped : t.rows ≤ row_cap) (c i : ℕ) (e : i ≡ place_of t c) where
  pub row_missing : t.rows ≤ i → has_row t c ≡ false
  row_missing h = has_row_is t capped c ∙ le-ltb (place_of t c) t.rows (subst (λ (n : ℕ). t.rows ≤ n) e h)

  pub row_listed : i < t.rows → has_row t c ≡ true
  row_listed h = has_row_is t capped c ∙ lt-ltb (place_of t c) t.rows (subst (λ (n : ℕ). n < t.rows) e h)

  pub row_found : i < t.rows → get_or t.clusters i 0 ≡ c
  row_found h =
      ap (λ (n : ℕ). get_or t.clusters n 0) e ∙ place_of_at t capped c (subst (λ (n : ℕ). n < t.rows) e h)

-- ---- its score

abbrev pub with_score : Table → ℕ → ℤ → ℕ → Table
with_score t i z s =
    table_in t.rows t.degree t.clusters (set t.weights i z) (set t.states i s)
    t.lengths t.counts t.marks t.bests t.members_low t.members_high

module _ (t : Table) (i : ℕ) (z : ℤ) (s : ℕ) where
  score-same : Sized t → i < row_cap → entry_at (with_score t i z s) i
      ≡ record { row = record { cluster = get_or t.clusters i 0; weight = z; state = s }; val = (entry_at t i).val }
  score-same k h = λ j. record {
    row = record {
      cluster = get_or t.clusters i 0;
      weight = get_or-set_same t.weights i z (pos 0) (subst (λ (n : ℕ). i < n) (sym k.weights) h) j;
      state = get_or-set_same t.states i s 0 (subst (λ (n : ℕ). i < n) (sym k.states) h) j;
    };
    val = (entry_at t i).val;
  }

  score_other : (j : ℕ) → j ≢ i → entry_at (with_score t i z s) j ≡ entry_at t j
  score_other j n = λ k. record {
    row = record {
      cluster = get_or t.clusters j 0;
      weight = get_or-set_other t.weights i j z (pos 0) n k;
      state = get_or-set_other t.states i j s 0 n k;
    };
    val = (entry_at t j).val;
  }

module _ (W : Width) (facts : WidthFacts W) (t : Table) (c : ℕ) (z : ℤ) (s : ℕ) (sized : Sized t) (fit : T (is_fit W t))
    (i : ℕ) (place : i < t.rows) (found : get_or t.clusters i 0 ≡ c) where
  abbrev new : Table
  new = with_score t i z s

  known : FitTable W t
  known = is_fit→ W facts t fit

  -- no other row has the cluster
  only : (j : ℕ) → j < t.rows → j ≢ i → get_or t.clusters j 0 ≢ c
  only j h n e = go (dec_lt j i)
    where
      go : Dec (j < i) → ⊥
      go (yes l) = omega (arith, known.rising j i l place, e, found)
      go (no l) = omega (arith, known.rising i j (omega arith) h, e, found)

  score_entry : (j : ℕ) → j < t.rows → entry_at new j ≡ put_entry c z s (entry_at t j)
  score_entry j h = go (ℕ_discrete j i)
    where
      put : Bool → Entry Result
      put b = record {
        row = cond b (record { cluster = get_or t.clusters j 0; weight = z; state = s }) (row_at t j);
        val = (entry_at t j).val;
      }

      scored : ℕ → Entry Result
      scored n = record { row = record { cluster = get_or t.clusters n 0; weight = z; state = s }; val = (entry_at t n).val }

      go : Dec (j ≡ i) → entry_at new j ≡ put (lib.Dec.eqb (get_or t.clusters j 0) c)
      go (yes e) =
          subst (λ (n : ℕ). entry_at new n ≡ scored n) (sym e)
          (score-same t i z s sized (omega (arith, known.bounds.capped, facts.rows)))
          ∙ ap put (sym (eq-eqb (get_or t.clusters j 0) c (ap (λ (n : ℕ). get_or t.clusters n 0) e ∙ found)))
      go (no n) = score_other t i z s j n ∙ ap put (sym (ne_eqb (get_or t.clusters j 0) c (only j h n)))

  pub score_entries : (n : ℕ) → n ≤ t.rows → entries_of new n ≡ map (put_entry c z s) (entries_of t n)
  score_entries n h =
      down_ext (entry_at new) (λ (j : ℕ). put_entry c z s (entry_at t j)) n (λ j k. score_entry j (omega arith))
      ∙ sym (down_map (put_entry c z s) (entry_at t) n)

  score-clusters : clusters_in new ≡ clusters_in t
  score-clusters = clusters_are new t.rows ∙ sym (clusters_are t t.rows)

  score-again : again_table W new c ≡ new_table W t c z s
  score-again =
      ap₂ (λ (cs : List ℕ) (es : List (Entry Result)). table_of t.degree (again (worked_out W t.degree cs) c es))
      score-clusters (score_entries t.rows (omega arith))

  score-sized : Sized new
  score-sized = record {
    clusters = sized.clusters;
    weights = length-set t.weights i z ∙ sized.weights;
    states = length-set t.states i s ∙ sized.states;
    lengths = sized.lengths;
    counts = sized.counts;
    marks = sized.marks;
    bests = sized.bests;
    lows = sized.lows;
    highs = sized.highs;
  }

  score-rules : T (is_score z s) → (j : ℕ) → j < t.rows → T (keeps_rules W (row_at new j))
  score-rules k j h =
      subst (λ (e : Entry Result). T (keeps_rules W e.row)) (sym (score_entry j h))
      (put-rules W c z s k (row_at t j) (→rules W (row_at t j) (known.fit j h).width (known.fit j h).rules))

  -- a row that doesn't contain c isn't the row of c
  score-fit : (j : ℕ) → j < t.rows → (T (inside c (get_or t.clusters j 0)) → ⊥) → T (fit_entry W (clusters_in new) (entry_at new j))
  score-fit j h n =
      let at : j ≡ i → get_or t.clusters j 0 ≡ c = λ e. ap (λ (m : ℕ). get_or t.clusters m 0) e ∙ found in
      let other : j ≢ i = λ e. n (subst (λ (x : ℕ). T (inside c x)) (sym (at e)) (inside_refl c)) in
      subst (λ (cs : List ℕ). T (fit_entry W cs (entry_at new j))) (sym score-clusters)
      (subst (λ (e : Entry Result). T (fit_entry W (clusters_in t) e)) (sym (score_other t i z s j other))
      (→fit W (clusters_in t) (entry_at t j) (known.fit j h)))

  new_workable : T (is_score z s) → WordsIn t.members_low t.rows → Workable W new c
  new_workable k words = record {
    bounds = known.bounds;
    sized = score-sized;
    rising = record { long = omega (arith, sized.clusters, known.bounds.capped, facts.rows); up = known.rising };
    rules = score-rules k;
    fit = score-fit;
    words = words;
    blank = λ j l m.
        entry_empty (score_other t i z s j (λ e. omega arith) ∙ known.past j l m);
  }

  -- as the code has it: the weight through its bits
  pub score_workable : T (is_score z s) → WordsIn t.members_low t.rows → {w : ℤ} → w ≡ z → Workable W (with_score t i w s) c
  score_workable k words e = subst (λ (w : ℤ). Workable W (with_score t i w s) c) (sym e) (new_workable k words)

  pub score_done : {w : ℤ} → w ≡ z → again_table W (with_score t i w s) c ≡ new_table W t c z s
  score_done e = ap (λ (v : ℤ). again_table W (with_score t i v s) c) e ∙ score-again
