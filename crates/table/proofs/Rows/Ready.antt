-- A row that may be worked out (`Ready` of `specs/Working.antt`): what the search may count on, and the row itself over what it finds.
--     searchable            what the search may count on
--     own_encoded           the row by itself: one tree, its weight and its mark
--     found_res, under_is    what the search finds, and the tally of the row over it
--     under_fits            the sums of that fit their words
-- Assumes nothing.
use mathlib.Core.Path.{◌≡◌, sym, ap, ◌∙◌, subst₂}
use mathlib.Core.Option.{Option, none, some}
use mathlib.Core.List.{List}
use Prim.Native.Nat.{ℕ, suc, ◌+◌, ◌-◌, ◌*◌, ◌/◌, ◌%◌, ◌^◌, ◌≤◌, ◌<◌}
use native.Mathlib.Decide.{dec_le}
use native.Mathlib.Nat.{le_refl, one-mul}
use native.Mathlib.Omega.{arith}
use lib.IntN.{ℤ, nat_abs, ◌+ℤ◌}
use lib.ListN.{get_or}
use mir.Syntax.{w64}
use mir.Val.{SFits}
use Rattle.laws.specs.Cluster.{size, highest}
use Rattle.laws.specs.Limits.{Width, weight_max, word_values}
use Rattle.laws.proofs.Taxa.{size_pos, highest-le, highest_gt}
use Rattle.trees.specs.Solution.{Sol, times_sol, Res}
use Rattle.trees.proofs.Counting.Capped.{count_small}
use Rattle.trees.proofs.Counting.Worked.{mark_in}
use Rattle.trees.proofs.Sets.Families.{one, Disj}
use Rattle.kept.specs.View.{clusters_down}
use Rattle.kept.proofs.Laws.Clusters.{mark_down}
use Rattle.kept.proofs.Laws.Marks.{highest-lt}
use Rattle.table.specs.declared.tally.Tally.{Tally}
use Rattle.table.specs.Searched.{Searchable}
use Rattle.table.specs.Tally.{tally_with, tally_of, own_tally}
use Rattle.table.specs.Working.{found_tally, Ready}
use Rattle.table.specs.Columns.{Columns, sum_covers, parts_of}
use Rattle.table.specs.Sums.{under_tally}
use Rattle.table.proofs.Fitting.Rooted.{mine, own_disj}
use Rattle.table.proofs.Rows.Working.{low_mark_is, high_mark_is}
use Rattle.table.proofs.Tallies.CoverSums.{sum_covers_keeps}
use Rattle.table.proofs.Tallies.Encoded.{Clear, tally_under}
use Rattle.table.proofs.Tallies.Held.{Keeps, keeps_counted}
use Rattle.table.proofs.Tallies.Overflow.{Safe, Words, words-fit, light-fits, set_of, members_of, set_coded, words_safe, words_clear}
use Rattle.table.proofs.Tuples.Readable.{parts_keep}
use Rattle.table.proofs.Tuples.Searched.{below-le}

module _ {W : Width} {k : Columns} {starts : List ℕ} {z : ℤ} {i d : ℕ} (R : Ready W k starts z i d) where
  abbrev C : ℕ
  C = get_or k.clusters i 0

  abbrev limit : ℕ
  limit = W.count_max

  -- the clusters of all rows
  abbrev cs : List ℕ
  cs = clusters_down k.clusters R.rows

  -- ---- the search

  -- a row beneath that reaches the taxon above the highest of C would be above C
  reached : Dec (i ≤ get_or starts (suc (highest C)) 0) → i ≤ get_or starts (suc (highest C)) 0
  reached (yes h) = h
  reached (no n) =
      let below = R.begins.each (suc (highest C)) (highest-lt 64 C R.nonzero R.small) in
      let j = get_or starts (suc (highest C)) 0 in
      let above = below.more j (omega arith) (omega (arith, R.place)) in
      absurd (omega (arith, above, R.rising.up j i (omega arith) R.place, highest_gt C R.nonzero))

  pub searchable : Searchable limit k starts i C
  searchable = record {
    readable = record {
      cs = cs;
      capped = omega (arith, R.place, R.capped);
      sound = R.sound;
      words = λ j h. R.words j (omega (arith, R.place));
    };
    rows = R.rows;
    within = omega (arith, R.place);
    capped = R.capped;
    rising = R.rising;
    begins = R.begins;
    nonzero = R.nonzero;
    small = R.small;
    run =
        below-le k.clusters R.rows _ _ i
        (R.begins.each (highest C) (omega (arith, highest-lt 64 C R.nonzero R.small))) (highest-le C R.nonzero);
    reach = reached (dec_le i (get_or starts (suc (highest C)) 0));
  }

  abbrev pub found_res : Res
  found_res = sum_covers (d - 1) C (parts_of k i)

  found_keeps : Keeps cs C 0 C found_res.1
  found_keeps =
      sum_covers_keeps cs C (parts_of k i) (parts_keep R.sound C (λ j h. R.rising.up j i h R.place)) (d - 1) C

  -- ---- the row by itself

  own-place : mark_in cs C ≡ 2 ^ i
  own-place = mark_down k.clusters R.rows i R.rising.up R.place

  pub own_encoded : (n : ℕ) → own_tally n z i ≡ tally_of limit (n, some (mine cs C z))
  own_encoded n =
      let q = count_small limit 1 R.sound.one in
      λ j. record {
        tuples = n;
        count = sym q.0 j;
        mark = sym q.1 j;
        best = z;
        low = (low_mark_is i ∙ ap (λ (m : ℕ). m % word_values) (sym own-place)) j;
        high = (high_mark_is i ∙ ap (λ (m : ℕ). m / word_values) (sym own-place)) j;
      }

  -- ---- the row over what the search found

  -- the row's own mark and its children's members share no row
  own-words : (v : Option Sol) → Keeps cs C 0 C v → Words (mark_in cs C) (set_of v)
  own-words v g = rw (set_coded cs C 0 C v g) (words-fit cs (one C) (members_of cs C 0 C v g) R.sound.short (others v g))
    where
      others : (v : Option Sol) (g : Keeps cs C 0 C v) → Disj (one C) (members_of cs C 0 C v g)
      others none g c t u = u
      others (some x) g c t u = own_disj cs C 0 x g c t u

  pub under_is : under_tally limit (own_tally 1 z i) (found_tally W k i d)
      ≡ tally_of limit (found_res.0, times_sol (some (mine cs C z)) found_res.1)
  under_is =
      ap (λ (o : Tally). under_tally limit o (found_tally W k i d)) (own_encoded 1)
      ∙ tally_under limit R.sound.one (some (mine cs C z)) found_res (le_refl 1) (keeps_counted cs C 0 C found_res.1 found_keeps) clear
      ∙ ap (λ (n : ℕ). tally_of limit (n, times_sol (some (mine cs C z)) found_res.1)) (one-mul found_res.0)
    where
      clear : Clear (some (mine cs C z)) found_res.1
      clear = words_clear (some (mine cs C z)) found_res.1 (own-words found_res.1 found_keeps)

  own_safe : Safe (tally_of limit (1, some (mine cs C z))) (found_tally W k i d)
  own_safe =
      words_safe limit found_res.0 (some (mine cs C z)) found_res.1 (own-words found_res.1 found_keeps)
      (light-fits C z (found_tally W k i d).best R.small (light found_res.1 found_keeps))
    where
      light : (v : Option Sol) → Keeps cs C 0 C v → nat_abs z + nat_abs (tally_with limit found_res.0 v).best ≤ 3 * weight_max * size C
      light none g = omega (arith, R.light, size_pos C (λ e. omega (arith, R.nonzero)))
      light (some x) g = omega (arith, R.light, g.light, size_pos C (λ e. omega (arith, R.nonzero)))

  pub under_fits : {o f : Tally} → o ≡ own_tally 1 z i → f ≡ found_tally W k i d
      → SFits w64 (o.best +ℤ f.best) × ((o.low + f.low < word_values) × (o.high + f.high < word_values))
  under_fits p q =
      let safe = subst₂ Safe (sym (p ∙ own_encoded 1)) (sym q) own_safe in
      (safe.best, (safe.low, safe.high))
