-- What one row adds to the search: a scored row j, inside what is left, R, and among those that reach its highest taxon.
--     Led                      such a row
--     Adds                     what it adds, and the tally that the code has of that
--     whole_adds               the row is all of R: it adds itself
--     next_place, inner_asks   the row is a part of R: where the rows for the other part end, and what the inner search may count on
--     under_asks, part_adds    nothing overflows when the row goes under what the inner search gives, and that is what it adds
-- Assumes nothing.
use mathlib.Core.Path.{◌≡◌, sym, ap, ap₂, ◌∙◌, subst, subst₂}
use mathlib.Core.Logic.{◌≢◌}
use mathlib.Core.Bool.{true}
use mathlib.Core.List.{List}
use Prim.Native.Nat.{ℕ, suc, ◌+◌, ◌-◌, ◌^◌, ◌≤◌, ◌<◌}
use native.Mathlib.Decide.{dec_lt}
use native.Mathlib.Nat.{le_refl}
use native.Mathlib.Numerals.{add-one}
use native.Mathlib.Omega.{arith}
use lib.Dec.{T}
use lib.IntN.{◌+ℤ◌}
use lib.ListN.{get_or}
use lib.Pow.{pow_mono}
use mir.Syntax.{w64}
use mir.Val.{SFits}
use Rattle.laws.specs.Cluster.{inside, highest}
use Rattle.laws.specs.Limits.{word_values}
use Rattle.laws.specs.State.{scored}
use Rattle.laws.proofs.Cluster.{le_of_inside}
use Rattle.laws.proofs.Taxa.{highest-le, highest_gt}
use Rattle.laws.proofs.Tests.{true_T}
use Rattle.trees.specs.Rows.{Entry, sc}
use Rattle.trees.specs.Solution.{times_sol, Res}
use Rattle.trees.proofs.Counting.Capped.{Counted}
use Rattle.trees.proofs.Searching.Leads.{leads, leads_of_reach}
use Rattle.trees.proofs.Searching.Search.{gain, gain_whole, gain_part}
use Rattle.table.specs.declared.tally.Tally.{Tally}
use Rattle.table.specs.Tally.{tally_of}
use Rattle.table.specs.Searched.{Below, Searchable}
use Rattle.table.specs.Columns.{Columns, part_at, part_tally, parts_of, sum_kind, sum_covers}
use Rattle.table.specs.Sums.{under_tally}
use Rattle.table.proofs.Tuples.Searched.{below_mono, parts_within, sum_covers_search, sum_covers_local}
use Rattle.table.proofs.Tallies.CoverSums.{sum_covers_keeps}
use Rattle.table.proofs.Tallies.Encoded.{tally_under}
use Rattle.table.proofs.Tallies.Held.{Keeps, keeps_counted, keeps_times, Part}
use Rattle.table.proofs.Tallies.Overflow.{Safe, part_clear, part_safe}
use Rattle.table.proofs.Tuples.Readable.{readable_fewer, part_keeps, part_is}
use Rattle.table.proofs.Tuples.Searchable.{top_of, taxon-fits, searched_fall, rows-below, searched_keep}

pub record Led (limit : ℕ) (k : Columns) (starts : List ℕ) (end R j : ℕ) : Type 0 where
  pub asked : Searchable limit k starts end R
  pub place : j < end
  pub reached : get_or starts (highest R) 0 ≤ j
  pub within : inside (get_or k.clusters j 0) R ≡ true
  pub scored : scored (get_or k.states j 0) ≡ true

-- row j adds g, of which the code has the tally t
pub record Adds (limit : ℕ) (k : Columns) (end R left j : ℕ) (t : Tally) : Type 0 where
  pub scored : T (sc (part_at k j))
  pub leads : T (leads (get_or k.clusters j 0) R)
  pub g : Res
  pub tally : t ≡ tally_of limit g
  pub counted : Counted g.1
  pub gains : gain sum_kind (left - 1) R (parts_of k end) (part_at k j) ≡ g

module _ {limit : ℕ} {k : Columns} {starts : List ℕ} {end R j : ℕ} (left : ℕ) (h : Led limit k starts end R j) where
  abbrev s : Searchable limit k starts end R
  s = h.asked

  abbrev c : ℕ
  c = get_or k.clusters j 0

  abbrev e : Entry Res
  e = part_at k j

  abbrev cs : List ℕ
  cs = s.readable.cs

  abbrev b : ℕ
  b = top_of R

  is_inside : T (inside c R)
  is_inside = true_T h.within

  is_scored_lem : T (sc e)
  is_scored_lem = true_T h.scored

  reaches : 2 ^ highest R ≤ c
  reaches =
      let small = taxon-fits s in
      (s.begins.each (highest R) (omega arith)).more j h.reached (omega (arith, h.place, s.within))

  is_led : T (leads c R)
  is_led = leads_of_reach c R s.nonzero is_inside reaches

  own : Part cs b e
  own = part_keeps s.readable.sound b j h.place (rows-below s j h.place) is_scored_lem

  own_is : part_tally k j ≡ tally_of limit e.val
  own_is = part_is s.readable.sound s.readable.words j h.place is_scored_lem

  own-counted : Counted e.val.1
  own-counted = keeps_counted cs b 1 c e.val.1 own.keeps

  pub whole_adds : {one : Tally} → one ≡ part_tally k j → R - c ≡ 0 → Adds limit k end R left j one
  whole_adds p z = record {
    scored = is_scored_lem;
    leads = is_led;
    g = e.val;
    tally = p ∙ own_is;
    counted = own-counted;
    gains = gain_whole sum_kind (left - 1) R (parts_of k end) e (omega (arith, le_of_inside c R is_inside));
  }

  -- ---- a part, which leaves something; hi is the highest taxon of that

  module _ (some_left : R - c ≢ 0) {hi : ℕ} (is-highest : hi ≡ highest (R - c)) where
    abbrev other : ℕ
    other = R - c

    abbrev next : ℕ
    next = get_or starts (hi + 1) 0

    other_pos : 0 < other
    other_pos = omega arith

    other_lt : other < 2 ^ highest R
    other_lt = omega (arith, highest_gt R s.nonzero, reaches)

    lower : hi < highest R
    lower = go (dec_lt hi (highest R))
      where
        go : Dec (hi < highest R) → hi < highest R
        go (yes l) = l
        go (no n) =
            let up : 2 ^ highest R ≤ 2 ^ hi = pow_mono (omega arith) in
            absurd (omega (arith, highest-le other other_pos, other_lt, ap (λ (t : ℕ). 2 ^ t) is-highest))

    pub next_place : hi + 1 < 65
    next_place = omega (arith, lower, taxon-fits s)

    next_below : Below k.clusters s.rows (2 ^ (hi + 1)) next
    next_below = s.begins.each (hi + 1) (omega (arith, next_place))

    next_gt : other < 2 ^ (hi + 1)
    next_gt = rw (add-one hi, is-highest) (highest_gt other other_pos)

    next_le : next ≤ j
    next_le = go (dec_lt j next)
      where
        go : Dec (j < next) → next ≤ j
        go (yes l) =
            let up : 2 ^ (hi + 1) ≤ 2 ^ highest R = pow_mono (omega (arith, lower)) in
            absurd (omega (arith, next_below.less j l, reaches))
        go (no n) = omega arith

    pub inner_asks : Searchable limit k starts next other
    inner_asks = record {
      readable = readable_fewer limit k next end (omega (arith, next_le, h.place)) s.readable;
      rows = s.rows;
      within = next_below.within;
      capped = s.capped;
      rising = s.rising;
      begins = s.begins;
      nonzero = other_pos;
      small = omega (arith, s.small);
      run = below_mono k.clusters s.rows _ (2 ^ (hi + 1)) _ _ (pow_mono (omega (arith, is-highest)))
          (s.begins.each (highest other) (omega (arith, is-highest, next_place))) next_below;
      reach = subst (λ (n : ℕ). next ≤ get_or starts n 0) (add-one hi ∙ ap suc is-highest) (le_refl next);
    }

    -- the sum over the covers of the other part, among all rows as among the first ones
    abbrev y : Res
    y = sum_covers (left - 1) other (parts_of k end)

    inner_is : sum_covers (left - 1) other (parts_of k next) ≡ y
    inner_is =
        sum_covers_local (left - 1) other (parts_of k next) (parts_of k end)
        (parts_within k other next end (omega (arith, next_le, h.place))
        (λ i l m. omega (arith, next_gt, next_below.more i l (omega (arith, s.within)))))

    y_keeps : Keeps cs b 0 other y.1
    y_keeps = sum_covers_keeps cs b (parts_of k end) (searched_keep s) (left - 1) other

    gains_part : gain sum_kind (left - 1) R (parts_of k end) e ≡ sum_kind.times e.val y
    gains_part =
        let fall = searched_fall s in
        gain_part sum_kind (left - 1) R (parts_of k end) e (omega arith)
        ∙ ap (sum_kind.times e.val) (sym (sum_covers_search (left - 1) other (parts_of k end) fall other_pos))

    module _ {one inner : Tally} (p : one ≡ part_tally k j) (q : inner ≡ tally_of limit (sum_covers (left - 1) other (parts_of k next))) where
      inner_tally : inner ≡ tally_of limit y
      inner_tally = q ∙ ap (tally_of limit) inner_is

      safe : Safe one inner
      safe =
          let short = s.readable.sound.short in
          subst₂ Safe (sym (p ∙ own_is)) (sym inner_tally)
          (part_safe cs b 1 0 c R e.val.1 y.1 short is_inside own.keeps y_keeps limit y.0 s.small)

      pub under_asks : SFits w64 (one.best +ℤ inner.best)
          × ((one.low + inner.low < word_values) × (one.high + inner.high < word_values))
      under_asks = (safe.best, (safe.low, safe.high))

      pub part_adds : {u : Tally} → u ≡ under_tally limit one inner → Adds limit k end R left j u
      part_adds d = record {
        scored = is_scored_lem;
        leads = is_led;
        g = sum_kind.times e.val y;
        tally = d ∙ ap₂ (under_tally limit) (p ∙ own_is) inner_tally ∙ under;
        counted = keeps_counted cs b 1 R (times_sol e.val.1 y.1) both;
        gains = gains_part;
      }
        where
          both : Keeps cs b 1 R (times_sol e.val.1 y.1)
          both = keeps_times cs b 1 0 c R e.val.1 y.1 is_inside own.keeps y_keeps

          under : under_tally limit (tally_of limit e.val) (tally_of limit y) ≡ tally_of limit (sum_kind.times e.val y)
          under =
              tally_under limit s.readable.sound.one e.val.1 y own-counted (keeps_counted cs b 0 other y.1 y_keeps)
              (part_clear cs b 1 0 c R e.val.1 y.1 s.readable.sound.short is_inside own.keeps y_keeps)
