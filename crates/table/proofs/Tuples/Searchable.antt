-- What a search may count on, put to use: its rows as parts fall and keep what sums keep, and few tuples are counted.
--     taxon-fits               the highest taxon of what is searched for, as a place among the starts
--     searched_fall            the rows, as parts, fall
--     top_of, rows-below        a number above all rows
--     searched_keep            the scored ones keep what sums keep
--     searched_few             the sum over the covers counts fewer tuples than a word has values
-- Assumes nothing.
use mathlib.Core.Path.{◌≡◌, subst}
use mathlib.Core.List.{List, map, Memᴰ as Mem}
use Prim.Native.Nat.{ℕ, suc, ◌^◌, ◌≤◌, ◌<◌}
use native.Mathlib.Nat.{pow-le-pow_left, pow-le-pow_right}
use native.Mathlib.Omega.{arith}
use lib.Dec.{T}
use lib.ListN.{get_or}
use Rattle.laws.specs.Cluster.{highest}
use Rattle.laws.specs.Limits.{degree_high, word_values}
use Rattle.laws.proofs.Descends.{Descends}
use Rattle.laws.proofs.Down.{down_length}
use Rattle.laws.proofs.Taxa.{highest-le}
use Rattle.trees.specs.Rows.{Entry, cl, sc}
use Rattle.trees.specs.Solution.{Res}
use Rattle.kept.proofs.Laws.Marks.{highest-lt}
use Rattle.table.specs.Searched.{Past, Searchable}
use Rattle.table.specs.Columns.{Columns, part_at, parts_of, sum_covers}
use Rattle.table.proofs.Tallies.CoverSums.{sum_covers-few}
use Rattle.table.proofs.Tallies.Held.{Part}
use Rattle.table.proofs.Tuples.Readable.{parts_fall, parts_keep}

-- above every row below the taxon after R's highest
abbrev pub top_of : ℕ → ℕ
top_of R = 2 ^ suc (highest R)

module _ {limit : ℕ} {k : Columns} {starts : List ℕ} {end R : ℕ} (s : Searchable limit k starts end R) where
  pub taxon-fits : highest R < 64
  taxon-fits = highest-lt 64 R s.nonzero s.small

  -- the last child isn't among the rows below the highest taxon
  pub start_past : (start : ℕ) → start ≡ get_or starts (highest R) 0 → Past k.clusters end R start
  start_past start e = record {
    within = omega (arith, s.run);
    less = λ i l. omega (arith, (s.begins.each (highest R) (omega (arith, taxon-fits))).less i (omega arith), highest-le R s.nonzero);
  }

  pub searched_fall : Descends (map cl (parts_of k end))
  searched_fall = parts_fall s.readable.sound

  pub rows-below : (j : ℕ) → j < end → get_or k.clusters j 0 < top_of R
  rows-below j l = (s.begins.each (suc (highest R)) taxon-fits).less j (omega (arith, s.reach))

  pub searched_keep : (e : Entry Res) → Mem e (parts_of k end) → T (sc e) → Part s.readable.cs (top_of R) e
  searched_keep = parts_keep s.readable.sound (top_of R) rows-below

  pub searched_few : (left : ℕ) → left < degree_high → (sum_covers left R (parts_of k end)).0 < word_values
  searched_few left h =
      let rows : suc end ^ left ≤ 129 ^ left = pow-le-pow_left (omega (arith, s.within, s.capped)) left in
      let tuples : 129 ^ left ≤ 129 ^ 4 = pow-le-pow_right (omega arith) (let most : left ≤ 4 = omega arith in most) in
      let all = sum_covers-few s.readable.cs (top_of R) (parts_of k end) searched_keep left R in
      let counted = subst (λ (n : ℕ). (sum_covers left R (parts_of k end)).0 ≤ suc n ^ left) (down_length (part_at k) end) all in
      omega arith
