-- The faults of lines, and the first of a sheet: `specs/Lines.antt` and `specs/Form.antt`.
--     fault→right, right→fault     a line that isn't at fault, in words, out of the test and into it
--     right-line        how many marks a line that isn't at fault starts with, and that it passes the test of a line
--     fault_first       a line at fault, and none before it
--     fault_unmarked    a sheet that starts with no mark or too many
-- Assumes nothing.
use mathlib.Core.Path.{◌≡◌, refl, sym, ap, ◌∙◌, subst}
use mathlib.Core.Bool.{Bool, true, false, not, ◌&&◌, ◌||◌, true≢false, not-eq-not}
use mathlib.Core.List.{List, [], ◌∷◌}
use Prim.Native.Nat.{ℕ, ◌+◌, ◌≤◌, ◌<◌}
use borrow.Author.Tests.{not-false, eqb-true, leb-false, eq-eqb, le-leb, lt-leb}
use native.Mathlib.Decide.{dec_le}
use native.Mathlib.Omega.{arith}
use lib.Dec.{T, eqb, leb, ltb, lt→ltb, leb→le}
use lib.ListN.{length, take, drop}
use Rattle.std.specs.List.{prefix_len}
use Rattle.laws.specs.Lists.{every}
use Rattle.laws.proofs.First.{first_of}
use Rattle.laws.proofs.Keep.{every→, →every}
use Rattle.laws.proofs.Tests.{T_and, T_true, true_T, or_r}
use Rattle.gel.specs.Lines.{is_mark, line_max, width_max, Line, line_count, line_at, width_of, is_fault, first_fault}
use Rattle.gel.specs.Facts.{RightLine}
use Rattle.gel.specs.Form.{is_line, FaultAt}
use Rattle.gel.proofs.Laws.Lines.{lines-some, line-ended}

-- five tests at once
none_of : (a b c d e : Bool) → (a || b || c || d || e) ≡ false
    → (a ≡ false) × (b ≡ false) × (c ≡ false) × (d ≡ false) × (e ≡ false)
none_of true b c d e h = absurd (true≢false h)
none_of false true c d e h = absurd (true≢false h)
none_of false false true d e h = absurd (true≢false h)
none_of false false false true e h = absurd (true≢false h)
none_of false false false false e h = (refl, refl, refl, refl, h)

-- a sheet that has no bytes
fault_empty : (s : List ℕ) → length s ≡ 0 → FaultAt s 0
fault_empty [] e = record { bad = tt; first = refl }
fault_empty (b ∷ s) e = absurd (omega (arith, e))

module _ (s : List ℕ) where
  -- ---- faults
  pub fault→right : (i : ℕ) → is_fault s i ≡ false → RightLine s i
  fault→right i h =
      let x = line_at s i in
      let n = length x.bytes in
      let inside = leb 1 n && leb n width_max in
      let q = none_of (not (every is_mark x.bytes)) (not (eqb n (width_of s))) (not inside) (not x.ends) (leb line_max i) h in
      let wide = T_and (leb 1 n) (leb n width_max) (true_T (not-false inside q.2)) in
      record {
        marks = every→ is_mark x.bytes (true_T (not-false (every is_mark x.bytes) q.0));
        long = eqb-true n (width_of s) (not-false (eqb n (width_of s)) q.1);
        some = leb→le 1 n wide.0;
        most = leb→le n width_max wide.1;
        ends = not-false x.ends q.3;
        low = leb-false line_max i q.4;
      }

  pub right→fault : (i : ℕ) → RightLine s i → is_fault s i ≡ false
  right→fault i k =
      let n = length (line_at s i).bytes in
      rw (
        T_true (every is_mark (line_at s i).bytes) (→every is_mark (line_at s i).bytes k.marks),
        eq-eqb n (width_of s) k.long,
        le-leb 1 n k.some,
        le-leb n width_max k.most,
        k.ends,
        lt-leb line_max i k.low,
      )

  -- the line from a place on, where it isn't at fault
  pub right-line : (at i : ℕ) → line_at s i ≡ line_at (drop at s) 0 → is_fault s i ≡ false
      → (prefix_len is_mark (drop at s) ≡ width_of s) × (is_line (take (width_of s + 1) (drop at s)) (width_of s) ≡ true)
  right-line at i e h =
      let k = fault→right i h in
      let long = ap (λ (x : Line). length x.bytes) (sym e) ∙ k.long in
      let ends = ap (λ (x : Line). x.ends) (sym e) ∙ k.ends in
      subst (λ (w : ℕ). (prefix_len is_mark (drop at s) ≡ w) × (is_line (take (w + 1) (drop at s)) w ≡ true)) long
      (line-ended (drop at s) ends (subst (λ (x : Line). T (every is_mark x.bytes)) e (→every is_mark (line_at s i).bytes k.marks)))

  -- ---- a bad sheet
  pub fault_first : (n : ℕ) → n < line_count s → (is_fault s n ≡ false → ⊥) → ((i : ℕ) → i < n → is_fault s i ≡ false) → FaultAt s n
  fault_first n h t f =
      let told = (not-eq-not {a = is_fault s n} {b = true}).0 t in
      let first : first_fault s ≡ n = first_of (is_fault s) 0 (line_count s) n (omega arith) (omega arith) told (λ i _ k. f i k) in
      let below = lt→ltb (first_fault s) (line_count s) (omega (arith, first)) in
      record { bad = or_r (eqb (length s) 0) (ltb (first_fault s) (line_count s)) below; first = sym first }

  -- a line 0 that isn't at fault has marks, and not too many
  marks-right : is_fault s 0 ≡ false → (1 ≤ prefix_len is_mark s) × (prefix_len is_mark s ≤ width_max)
  marks-right h =
      let k = fault→right 0 h in
      let e = (right-line 0 0 refl h).0 in
      (omega (arith, e, k.some, k.long), omega (arith, e, k.most, k.long))

  pub fault_unmarked : (1 ≤ prefix_len is_mark s → prefix_len is_mark s ≤ width_max → ⊥) → FaultAt s 0
  fault_unmarked f = go (dec_le 1 (length s))
    where
      go : Dec (1 ≤ length s) → FaultAt s 0
      go (yes h) = fault_first 0 (lines-some s h) (λ e. let q = marks-right e in f q.0 q.1) (λ i k. absurd (omega arith))
      go (no h) = fault_empty s (omega arith)
