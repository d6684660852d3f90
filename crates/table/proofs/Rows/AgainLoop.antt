-- The row loop of `again` (`src/working.rt`): how it begins, goes on and ends, with every row worked out again. What holds after each
-- row is `Partly` of `AgainRow.antt`.
--     partly_start, partly_skip, partly_store, partly_end
-- Assumes nothing.
use mathlib.Core.Path.{◌≡◌, refl, sym, ap, ap₂, ◌∙◌, subst}
use mathlib.Core.Bool.{Bool, true, false}
use mathlib.Core.List.{List, ◌∷◌}
use Prim.Native.Nat.{ℕ, suc, ◌+◌, ◌*◌, ◌/◌, ◌%◌, ◌≤◌, ◌<◌}
use native.Mathlib.Decide.{ℕ_discrete}
use native.Mathlib.Numerals.{add-one}
use native.Mathlib.Omega.{arith}
use lib.Dec.{T}
use lib.IntN.{pos}
use lib.ListN.{get_or}
use lib.Seq.{get_or-set_same, get_or-set_other}
use Rattle.laws.specs.Cluster.{inside}
use Rattle.laws.specs.Limits.{Width, row_cap, word_values}
use Rattle.laws.specs.Row.{Row}
use Rattle.laws.specs.Widths.{WidthFacts}
use Rattle.trees.specs.Rows.{Entry}
use Rattle.trees.specs.Result.{Result}
use Rattle.trees.specs.Rescored.{worked_out, again_if, again}
use Rattle.kept.specs.declared.table.Table.{Table}
use Rattle.kept.specs.View.{row_at, entry_at, entries_of, clusters_in, table_of}
use Rattle.kept.specs.Blank.{is_empty}
use Rattle.kept.proofs.Laws.Blank.{Blank, empty→blank, blank→empty, blank-past}
use Rattle.kept.proofs.Laws.View.{table_is}
use Rattle.table.specs.declared.tally.Tally.{Tally}
use Rattle.table.specs.Searched.{Starts}
use Rattle.table.specs.Tally.{fields_tally}
use Rattle.table.specs.Working.{worked_tally, again_table, Workable}
use Rattle.table.specs.Columns.{columns_of}
use Rattle.table.proofs.Rows.AgainRow.{Partly, same_row, row-again}
use Rattle.table.proofs.Rows.Stored.{result_in, stored, stored_same, stored_other, stored_entries, stored_sized}

-- the fields of a row, as a tally and back
result_back : (v : Result) → result_in (fields_tally v) ≡ v
result_back v = λ i. record {
  length = v.length;
  count = v.count;
  mark = v.mark;
  best = v.best;
  members = (let e : v.members % word_values + word_values * (v.members / word_values) ≡ v.members = omega arith in e) i;
}

low-lt : (m : ℕ) → m % word_values < word_values
low-lt m = omega arith

-- ---- how the loop begins, and a row that stays

module _ {W : Width} (facts : WidthFacts W) {given : Table} {c : ℕ} (w : Workable W given c) where
  abbrev d : ℕ
  d = given.degree

  abbrev cs : List ℕ
  cs = clusters_in given

  abbrev F : Row → List (Entry Result) → Result
  F = worked_out W given.degree (clusters_in given)

  pub partly_start : Partly W given c given 0
  partly_start = record {
    within = omega arith;
    degree = refl;
    rows = refl;
    clusters = refl;
    weights = refl;
    states = refl;
    sized = w.sized;
    done = refl;
    left = λ j h. refl;
    words = w.words;
  }

  pub partly_skip : {t : Table} {i : ℕ} → Partly W given c t i → i < given.rows → inside c (get_or t.clusters i 0) ≡ false
      → Partly W given c t (i + 1)
  partly_skip {t} {i} p h b = record {
    within = omega arith;
    degree = p.degree;
    rows = p.rows;
    clusters = p.clusters;
    weights = p.weights;
    states = p.states;
    sized = p.sized;
    done = rw (add-one i) (ap₂ (λ (e : Entry Result) (l : List (Entry Result)). e ∷ l) (p.left i (omega arith)) p.done ∙ passed);
    left = λ j l. p.left j (omega arith);
    words = p.words;
  }
    where
      out : inside c (get_or given.clusters i 0) ≡ false
      out = sym (ap (λ (l : List ℕ). inside c (get_or l i 0)) p.clusters) ∙ b

      passed : entry_at given i ∷ again F c (entries_of given i) ≡ again F c (entries_of given (suc i))
      passed = ap (λ (x : Bool). again_if F x (entry_at given i) (again F c (entries_of given i))) (sym out)

  module _ {t : Table} {i : ℕ} (p : Partly W given c t i) where
    room : given.rows ≤ row_cap
    room = omega (arith, w.bounds.capped, facts.rows)

    -- ---- row i worked out and stored

    module _ {r : Tally} {starts : List ℕ} (begins : Starts given.clusters given.rows starts) (h : i < given.rows)
        (b : inside c (get_or t.clusters i 0) ≡ true)
        (e : r ≡ worked_tally W (columns_of t) (get_or t.weights i (pos 0)) i t.degree) where
      row_is : r ≡ fields_tally (F (row_at given i) (again F c (entries_of given i)))
      row_is = e ∙ row-again facts w p starts h begins

      stored_row : entry_at (stored t i r) i ≡ record { row = row_at given i; val = F (row_at given i) (again F c (entries_of given i)) }
      stored_row =
          stored_same t i r p.sized (omega (arith, room))
          ∙ ap₂ (λ (x : Row) (v : Result). record { row = x; val = v }) (same_row facts w p) (ap result_in row_is ∙ result_back _)

      stored_done : entries_of (stored t i r) (suc i) ≡ again F c (entries_of given (suc i))
      stored_done =
          ap₂ (λ (x : Entry Result) (l : List (Entry Result)). x ∷ l) stored_row (stored_entries t i r i (omega arith) ∙ p.done)
          ∙ ap (λ (x : Bool). again_if F x (entry_at given i) (again F c (entries_of given i)))
          (sym (sym (ap (λ (l : List ℕ). inside c (get_or l i 0)) p.clusters) ∙ b))

      stored_words : (j : ℕ) → j < given.rows → Dec (j ≡ i) → get_or (stored t i r).members_low j 0 < word_values
      stored_words j l (yes q) =
          rw (q, get_or-set_same t.members_low i r.low 0 (omega (arith, p.sized.lows, room))) (rw row_is (low-lt _))
      stored_words j l (no n) = rw (get_or-set_other t.members_low i j r.low 0 n) (p.words j l)

      pub partly_store : Partly W given c (stored t i r) (i + 1)
      partly_store = record {
        within = omega arith;
        degree = p.degree;
        rows = p.rows;
        clusters = p.clusters;
        weights = p.weights;
        states = p.states;
        sized = stored_sized t i r p.sized;
        done = rw (add-one i) stored_done;
        left = λ j l. stored_other t i j r (λ q. omega arith) ∙ p.left j (omega arith);
        words = λ j l. stored_words j l (ℕ_discrete j i);
      }

    -- ---- all rows passed

    past-blank : (j : ℕ) → given.rows ≤ j → i ≤ j → Blank t j
    past-blank j h l =
        let b = blank-past given w.sized w.blank j h in
        empty→blank t j (subst (λ (e : Entry Result). T (is_empty e)) (sym (p.left j l)) (blank→empty given j b))

    pub partly_end : given.rows ≤ i → t ≡ again_table W given c
    partly_end h =
        let e : i ≡ given.rows = omega (arith, p.within) in
        table_is t p.sized (omega (arith, p.rows, room)) (λ j l. p.words j (omega (arith, p.rows)))
        (λ j l. past-blank j (omega (arith, p.rows)) (omega (arith, p.rows)))
        ∙ ap₂ (λ (g n : ℕ). table_of g (entries_of t n)) p.degree (p.rows ∙ sym e)
        ∙ ap (table_of given.degree) p.done
        ∙ ap (λ (n : ℕ). table_of given.degree (again F c (entries_of given n))) e
