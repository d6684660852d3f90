-- Rows that may be read: as parts they fall, keep what sums keep, and the code's form of one is its tally. Looking a row up.
--     readable_fewer                   fewer rows may be read too
--     parts_fall               the parts fall
--     part_keeps, parts_keep   the scored ones keep what sums keep; b is above all of them
--     part_is                  the code's form of a scored row is the tally of one tuple
--     missing_is, unscored_is, found_is     the one cover by one row: there is no such row, it is unscored, or it is the cover
-- Assumes nothing.
use mathlib.Core.Path.{◌≡◌, refl, sym, ap, ◌∙◌, subst}
use mathlib.Core.Logic.{◌≢◌}
use mathlib.Core.Bool.{Bool, true, false, cond}
use mathlib.Core.List.{List, map, Memᴰ as Mem}
use Prim.Native.Nat.{ℕ, ◌≤◌, ◌<◌}
use native.Mathlib.Omega.{arith}
use lib.Dec.{T}
use lib.ListN.{get_or}
use Rattle.laws.specs.State.{scored}
use Rattle.laws.specs.Row.{is_scored}
use Rattle.laws.proofs.Descends.{Descends}
use Rattle.laws.proofs.Down.{mem_down, down_mem}
use Rattle.laws.proofs.Tests.{true_T}
use Rattle.trees.specs.Rows.{Entry, cl, sc}
use Rattle.trees.specs.Solution.{Res}
use Rattle.trees.proofs.Searching.Search.{lookup, lookup_row, lookup_missing, search_one}
use Rattle.kept.proofs.Laws.Clusters.{rising_part}
use Rattle.table.specs.Tally.{tally_of, decoded}
use Rattle.table.specs.Searched.{WordsIn, Sound, Readable}
use Rattle.table.specs.Columns.{Columns, column_row, fields_of, part_at, part_tally, parts_of, sum_kind, sum_covers}
use Rattle.table.specs.Sums.{no_tally}
use Rattle.table.proofs.Tuples.Searched.{parts_descend, sum_covers_search}
use Rattle.table.proofs.Tallies.Decoded.{decoded_keeps, fields_tally_lem}
use Rattle.table.proofs.Tallies.Held.{Part}

-- ---- fewer rows

module _ (limit : ℕ) (k : Columns) (m n : ℕ) (h : m ≤ n) where
  sound_fewer : (cs : List ℕ) → Sound limit k cs n → Sound limit k cs m
  sound_fewer cs s = record {
    one = s.one;
    small = s.small;
    short = s.short;
    falls = s.falls;
    full = s.full;
    rising = rising_part k.clusters n m h s.rising;
    nonzero = λ i l. s.nonzero i (omega arith);
    good = λ i l. s.good i (omega arith);
  }

  pub readable_fewer : Readable limit k n → Readable limit k m
  readable_fewer r = record {
    cs = r.cs;
    capped = omega (arith, r.capped);
    sound = sound_fewer r.cs r.sound;
    words = λ i l. r.words i (omega arith);
  }

-- ---- the rows as parts

module _ {limit : ℕ} {k : Columns} {cs : List ℕ} {n : ℕ} (s : Sound limit k cs n) where
  pub parts_fall : Descends (map cl (parts_of k n))
  parts_fall = parts_descend k n s.rising.up s.nonzero

  pub part_keeps : (b i : ℕ) → i < n → get_or k.clusters i 0 < b → T (is_scored (column_row k i)) → Part cs b (part_at k i)
  part_keeps b i h l t = record {
    one = refl;
    keeps =
        decoded_keeps limit cs (column_row k i) (fields_of k i) (s.good i h t) b s.falls s.full (λ e. omega (arith, s.nonzero i h)) l;
  }

  pub parts_keep : (b : ℕ) → ((i : ℕ) → i < n → get_or k.clusters i 0 < b)
      → (e : Entry Res) → Mem e (parts_of k n) → T (sc e) → Part cs b e
  parts_keep b top e m t =
      let q = mem_down (part_at k) n e m in
      rw q.2 (part_keeps b q.0 q.1 (top q.0 q.1) (subst (λ (x : Entry Res). T (sc x)) q.2 t))

  pub part_is : WordsIn k.lows n → (i : ℕ) → i < n → T (is_scored (column_row k i))
      → part_tally k i ≡ tally_of limit (1, decoded (fields_of k i))
  part_is w i h t =
      fields_tally_lem limit cs (column_row k i) (fields_of k i) (s.good i h t) 1 (get_or k.lows i 0) (get_or k.highs i 0) (w i h) refl

  -- ---- the one cover by one row

  module _ {R : ℕ} (p : 0 < R) where
    one_is : sum_covers 1 R (parts_of k n) ≡ lookup sum_kind R (parts_of k n)
    one_is = sum_covers_search 1 R (parts_of k n) parts_fall p ∙ search_one sum_kind R (parts_of k n)

    -- no row is R
    pub missing_is : ((i : ℕ) → i < n → get_or k.clusters i 0 ≢ R) → no_tally ≡ tally_of limit (sum_covers 1 R (parts_of k n))
    missing_is f = ap (tally_of limit) (sym (one_is ∙ lookup_missing sum_kind R (parts_of k n) other))
      where
        other : (x : Entry Res) → Mem x (parts_of k n) → cl x ≢ R
        other x m e = let q = mem_down (part_at k) n x m in f q.0 q.1 (sym (ap cl q.2) ∙ e)

    -- row a is
    module _ {a : ℕ} (h : a < n) (e : get_or k.clusters a 0 ≡ R) where
      row_is : sum_covers 1 R (parts_of k n) ≡ cond (sc (part_at k a)) (part_at k a).val sum_kind.none
      row_is =
          one_is
          ∙ subst (λ (x : ℕ). lookup sum_kind x (parts_of k n) ≡ cond (sc (part_at k a)) (part_at k a).val sum_kind.none) e
          (lookup_row sum_kind (parts_of k n) parts_fall (part_at k a) (down_mem (part_at k) n a h))

      pub unscored_is : scored (get_or k.states a 0) ≡ false → no_tally ≡ tally_of limit (sum_covers 1 R (parts_of k n))
      unscored_is f = ap (tally_of limit) (sym (row_is ∙ ap (λ (t : Bool). cond t (part_at k a).val sum_kind.none) f))

      pub found_is : WordsIn k.lows n → scored (get_or k.states a 0) ≡ true → part_tally k a ≡ tally_of limit (sum_covers 1 R (parts_of k n))
      found_is w f =
          part_is w a h (true_T f)
          ∙ ap (tally_of limit) (sym (row_is ∙ ap (λ (b : Bool). cond b (part_at k a).val sum_kind.none) f))
