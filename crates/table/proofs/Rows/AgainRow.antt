-- One turn of the row loop of `again` (`src/working.rt`): the rows so far worked out, and the row that the code works out next.
--     Partly W given c t i    the first i rows of t are the given ones, worked out again; the others are as given
--     ready_row               what working out row i may count on
--     same_row, row-again     the row is the given one, and the code's result for it is that of the rules, over the rows as they stand
-- Assumes nothing.
use mathlib.Core.Path.{◌≡◌, sym, ap, ap₂, ◌∙◌, subst}
use mathlib.Core.Logic.{◌≢◌}
use mathlib.Core.List.{List}
use mathlib.Core.List.{Memᴰ as Mem}
use Prim.Native.Nat.{ℕ, ◌≤◌, ◌<◌}
use native.Mathlib.Omega.{arith}
use lib.Dec.{T}
use lib.IntN.{ℤ, pos, nat_abs}
use lib.ListN.{get_or}
use Rattle.laws.specs.Limits.{Width, is_degree, weight_max, word_values, row_cap}
use Rattle.laws.specs.Orders.{Falling}
use Rattle.laws.specs.Row.{Row}
use Rattle.laws.specs.Widths.{WidthFacts}
use Rattle.laws.proofs.Down.{down_length, down_mem}
use Rattle.trees.specs.Rows.{Entry}
use Rattle.trees.specs.Result.{Result}
use Rattle.trees.specs.Rescored.{worked_out, again}
use Rattle.kept.specs.declared.table.Table.{Table}
use Rattle.kept.specs.View.{row_at, entry_at, entries_of, clusters_in, clusters_down}
use Rattle.kept.specs.Arrays.{Rising, Sized}
use Rattle.kept.proofs.Laws.Fit.{cluster_pos}
use Rattle.kept.proofs.Laws.Clusters.{clusters_are}
use Rattle.table.specs.Searched.{Starts, WordsIn, GoodRow, Sound}
use Rattle.table.specs.Tally.{fields_tally}
use Rattle.table.specs.Working.{worked_tally, Ready, Workable}
use Rattle.table.specs.Columns.{columns_of, column_row, fields_of}
use Rattle.table.proofs.Fitting.KeepsFit.{Over}
use Rattle.table.proofs.Rows.Workable.{given-rules, cluster-word, given-full, given-falls}
use Rattle.table.proofs.Rows.Workable.{again-fit-below, again_over_below}
use Rattle.table.proofs.Rows.WorkedRow.{worked-row}
use Rattle.table.proofs.Tallies.Decoded.{good_of_fit}

-- ---- what holds after i rows

pub record Partly (W : Width) (given : Table) (c : ℕ) (t : Table) (i : ℕ) : Type 0 where
  pub within : i ≤ given.rows
  pub degree : t.degree ≡ given.degree
  pub rows : t.rows ≡ given.rows
  pub clusters : t.clusters ≡ given.clusters
  pub weights : t.weights ≡ given.weights
  pub states : t.states ≡ given.states
  pub sized : Sized t
  pub done : entries_of t i ≡ again (worked_out W given.degree (clusters_in given)) c (entries_of given i)
  pub left : (j : ℕ) → i ≤ j → entry_at t j ≡ entry_at given j
  pub words : WordsIn t.members_low given.rows

module _ {W : Width} (facts : WidthFacts W) {given : Table} {c : ℕ} (w : Workable W given c) where
  abbrev d : ℕ
  d = given.degree

  abbrev cs : List ℕ
  cs = clusters_in given

  abbrev F : Row → List (Entry Result) → Result
  F = worked_out W given.degree (clusters_in given)

  module _ {t : Table} {i : ℕ} (p : Partly W given c t i) where
    -- what is known of the given clusters is known of those of t
    clusters-same : (P : List ℕ → Type 0) → P given.clusters → P t.clusters
    clusters-same P h = subst P (sym p.clusters) h

    same-clusters : clusters_down t.clusters given.rows ≡ clusters_in given
    same-clusters = ap (λ (l : List ℕ). clusters_down l given.rows) p.clusters ∙ sym (clusters_are given given.rows)

    among_same : (P : List ℕ → Type 0) → P (clusters_in given) → P (clusters_down t.clusters given.rows)
    among_same P h = subst P (sym same-clusters) h

    room : given.rows ≤ row_cap
    room = omega (arith, w.bounds.capped, facts.rows)

    ready_sound : i < given.rows → Sound W.count_max (columns_of t) (clusters_down t.clusters given.rows) i
    ready_sound h = record {
      one = facts.counts;
      small = facts.word;
      short = omega (arith, down_length (λ (a : ℕ). get_or t.clusters a 0) given.rows, room);
      falls = among_same Falling (given-falls facts w given.rows (omega arith));
      full = among_same (λ (l : List ℕ). (x : ℕ) → Mem x l → x ≢ 0) (given-full facts w);
      rising = record {
        long = omega (arith, p.sized.clusters, room);
        up = λ a b x y. clusters-same (λ (l : List ℕ). get_or l a 0 < get_or l b 0) (w.rising.up a b x (omega arith));
      };
      nonzero = λ j l. clusters-same (λ (l : List ℕ). 0 < get_or l j 0) (cluster_pos W (row_at given j) (w.rules j (omega arith)));
      good = λ j l s. among_same (good_at j) (good j l);
    }
      where
        good_at : ℕ → List ℕ → Type 0
        good_at j l = GoodRow W.count_max l (column_row (columns_of t) j) (fields_of (columns_of t) j)

        -- the rows passed are fit; the search reads neither their weights nor their lengths
        good : (j : ℕ) → j < i → good_at j (clusters_in given)
        good j l =
            let row = subst (Mem (entry_at t j)) p.done (down_mem (entry_at t) i j l) in
            let g = good_of_fit W cs (entry_at t j) (again-fit-below facts w i p.within (entry_at t j) row) in
            record { counted = g.counted; marked = g.marked; matched = g.matched }

    pub ready_row : (starts : List ℕ) → i < given.rows → Starts given.clusters given.rows starts
        → Ready W (columns_of t) starts (get_or t.weights i (pos 0)) i t.degree
    ready_row starts h s = record {
      rows = given.rows;
      place = h;
      capped = room;
      sound = ready_sound h;
      words = p.words;
      rising = clusters-same (λ (l : List ℕ). Rising l given.rows) w.rising;
      begins = clusters-same (λ (l : List ℕ). Starts l given.rows starts) s;
      nonzero = clusters-same (λ (l : List ℕ). 0 < get_or l i 0) (cluster_pos W (row_at given i) (w.rules i h));
      small = clusters-same (λ (l : List ℕ). get_or l i 0 < word_values) (cluster-word facts w i h);
      degree = subst (λ (n : ℕ). T (is_degree n)) (sym p.degree) w.bounds.degree;
      light = subst (λ (l : List ℤ). nat_abs (get_or l i (pos 0)) ≤ weight_max) (sym p.weights)
          (given-rules facts w i h).1.score.in_range_lem;
    }

    -- ---- row i worked out and stored

    pub same_row : row_at t i ≡ row_at given i
    same_row = ap (λ (e : Entry Result). e.row) (p.left i (omega arith))

    -- the code's row is that of the rules, over the rows as they stand
    pub row-again : (starts : List ℕ) → i < given.rows → Starts given.clusters given.rows starts
        → worked_tally W (columns_of t) (get_or t.weights i (pos 0)) i t.degree
        ≡ fields_tally (F (row_at given i) (again F c (entries_of given i)))
    unfolding ready_row
    row-again starts h s =
        worked-row W t starts i t.degree (ready_row starts h s) over
        ∙ ap₂ (λ (n : ℕ) (l : List ℕ). fields_tally (worked_out W n l (row_at t i) (entries_of t i))) p.degree same-clusters
        ∙ ap fields_tally (ap₂ F same_row p.done)
      where
        over : Over W.count_max (clusters_down t.clusters given.rows) (row_at t i) (entries_of t i)
        over =
            among_same (λ (l : List ℕ). Over W.count_max l (row_at t i) (entries_of t i))
            (subst (λ (r : Row). Over W.count_max cs r (entries_of t i)) (sym same_row)
            (subst (Over W.count_max cs (row_at given i)) (sym p.done) (again_over_below facts w i h)))
