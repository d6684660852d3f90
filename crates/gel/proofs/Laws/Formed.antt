-- The lines of a sheet one after another, as the code goes through them: `specs/Form.antt`.
--     FirstWidth s w        the sheet starts with w marks, and no more
--     WholeLine s w i       line i has w marks, and LF
--     LinedTo s w n         n such lines stand first, and the lines from there on are the further ones
--     piece_is              what is cut off a list is so much of its front
--     lined_none, lined_more     the loop over the lines begins, and its step
--     lined_full, lined_stopped, lined_ended     its three ends: a line too many, a line at fault, the end of the sheet
-- Assumes nothing.
use mathlib.Core.Path.{◌≡◌, sym, ap, ◌∙◌, subst}
use mathlib.Core.Logic.{◌≢◌}
use mathlib.Core.Bool.{true, false, true≢false, ◌&&◌}
use mathlib.Core.List.{List, ◌++◌}
use Prim.Native.Nat.{ℕ, min, suc, ◌+◌, ◌*◌, ◌≤◌, ◌<◌}
use borrow.Author.Tests.{ne_eqb, le-ltb}
use native.Mathlib.Decide.{dec_le}
use native.Mathlib.Nat.{zero-add, zero-mul}
use native.Mathlib.Omega.{arith}
use lib.Dec.{T, eqb, eqb→eq}
use lib.ListN.{length, get_or, take, drop, length-drop, drop_of_length-le}
use lib.Seq.{drop_at, drop-drop, take-append_seam, length-take-le, get_or-take, get_or-drop}
use Rattle.std.specs.List.{prefix_len}
use Rattle.std.proofs.lemmas.List.{take_min}
use Rattle.std.proofs.lemmas.List.Sums.{prefix_len-le-length}
use Rattle.laws.specs.Lists.{every}
use Rattle.laws.proofs.Keep.{every→}
use Rattle.laws.proofs.Places.{every→at}
use Rattle.laws.proofs.First.{first-all}
use Rattle.laws.proofs.Tests.{T_and, true_T}
use Rattle.gel.specs.Lines.{line_end, is_mark, line_max, width_max, Line, no_line, line_count, line_at, width_of}
use Rattle.gel.specs.Lines.{is_fault, first_fault, is_bad_sheet}
use Rattle.gel.specs.Columns.{mark_at}
use Rattle.gel.specs.Form.{is_line, Formed, FaultAt}
use Rattle.gel.proofs.Laws.Faults.{fault→right, right→fault, right-line, fault_first}
use Rattle.gel.proofs.Laws.Lines.{LineFrom, lines-some, line_found}

pub piece_is : (r x more : List ℕ) (k : ℕ) → r ≡ x ++ more → length x ≡ min k (length r) → x ≡ take k r
piece_is r x more k cut long =
    sym (take-append_seam x more)
    ∙ ap (take (length x)) (sym cut)
    ∙ ap (λ (n : ℕ). take n r) long
    ∙ take_min k r

module _ (s : List ℕ) where
  pub record FirstWidth (w : ℕ) : Type 0 where
    pub first : w ≡ prefix_len is_mark s
    pub some : 1 ≤ w
    pub most : w ≤ width_max

  pub record WholeLine (w i : ℕ) : Type 0 where
    pub within : i * (w + 1) + (w + 1) ≤ length s
    pub marks : T (every is_mark (take w (drop (i * (w + 1)) s)))
    pub line : line_at s i ≡ record { bytes = take w (drop (i * (w + 1)) s); ends = true }

  pub record LinedTo (w n : ℕ) : Type 0 where
    pub within : n * (w + 1) ≤ length s
    pub few : n ≤ line_max
    pub count : line_count s ≡ n + line_count (drop (n * (w + 1)) s)
    pub rest : (k : ℕ) → line_at s (n + k) ≡ line_at (drop (n * (w + 1)) s) k
    pub whole : (i : ℕ) → i < n → WholeLine w i

  pub lined_none : (w : ℕ) → LinedTo w 0
  lined_none w = record {
    within = omega arith;
    few = omega arith;
    count = omega (arith, ap (λ (p : ℕ). line_count (drop p s)) (zero-mul (w + 1)));
    rest = λ k. ap (line_at s) (zero-add k) ∙ ap (λ (p : ℕ). line_at (drop p s) k) (sym (zero-mul (w + 1)));
    whole = λ i h. absurd (omega arith);
  }

  module _ (w n : ℕ) (l : LinedTo w n) where
    abbrev at : ℕ
    at = n * (w + 1)

    -- ---- the next line
    next_is : line_at s n ≡ line_at (drop at s) 0
    next_is = let e : n ≡ n + 0 = omega arith in ap (line_at s) e ∙ l.rest 0

    next_whole : LineFrom s at w → WholeLine w n
    next_whole x = record {
      within = x.within;
      marks = x.marks;
      line = next_is ∙ ap (λ (ls : List Line). get_or ls 0 no_line) x.lines;
    }

    next_counts : at < length s → n < line_count s
    next_counts h = omega (arith, l.count, lines-some (drop at s) (omega (arith, length-drop at s)))

    pub lined_more : n ≢ line_max → is_line (take (w + 1) (drop at s)) w ≡ true → LinedTo w (n + 1)
    lined_more few h = record {
      within = omega (arith, x.within);
      few = omega (arith, l.few, few);
      count = omega (arith, l.count, ap length x.lines, ap (λ (p : ℕ). line_count (drop p s)) after);
      rest = λ k. let e : n + 1 + k ≡ n + suc k = omega arith in
          ap (line_at s) e
          ∙ l.rest (suc k)
          ∙ ap (λ (ls : List Line). get_or ls (suc k) no_line) x.lines
          ∙ ap (λ (p : ℕ). line_at (drop p s) k) after;
      whole = λ i k. go i k (dec_le n i);
    }
      where
        x : LineFrom s at w
        x = line_found s at w l.within h

        after : at + (w + 1) ≡ (n + 1) * (w + 1)
        after = omega arith

        go : (i : ℕ) → i < n + 1 → Dec (n ≤ i) → WholeLine w i
        go i k (yes m) = let e : n ≡ i = omega arith in subst (WholeLine w) e (next_whole x)
        go i k (no m) = l.whole i (omega arith)

    -- what is left behind a line
    pub rest_more : (x more : List ℕ) → drop at s ≡ x ++ more → is_line x w ≡ true → more ≡ drop ((n + 1) * (w + 1)) s
    rest_more x more cut h =
        let whole = T_and (eqb (length x) (w + 1) && eqb (get_or x w 0) line_end) (every is_mark (take w x)) (true_T h) in
        let long = eqb→eq (length x) (w + 1) (T_and (eqb (length x) (w + 1)) (eqb (get_or x w 0) line_end) whole.0).0 in
        let e : at + (w + 1) ≡ (n + 1) * (w + 1) = omega arith in
        sym (drop_at x more (w + 1) long)
        ∙ ap (drop (w + 1)) (sym cut)
        ∙ drop-drop (w + 1) at s
        ∙ ap (λ (p : ℕ). drop p s) e

    -- ---- the lines in front
    long_is : (i : ℕ) → i < n → length (line_at s i).bytes ≡ w
    long_is i h =
        let x = l.whole i h in
        ap (λ (y : Line). length y.bytes) x.line
        ∙ length-take-le w (drop (i * (w + 1)) s) (omega (arith, length-drop (i * (w + 1)) s, x.within))

    whole-marks : (i : ℕ) → i < n → T (every is_mark (line_at s i).bytes)
    whole-marks i h = let x = l.whole i h in subst (λ (y : Line). T (every is_mark y.bytes)) (sym x.line) x.marks

    -- there is one, where the place isn't the start
    some-line : 1 ≤ at → 1 ≤ n
    some-line h = go (dec_le 1 n)
      where
        go : Dec (1 ≤ n) → 1 ≤ n
        go (yes k) = k
        go (no k) = let e : n ≡ 0 = omega arith in absurd (omega (arith, ap (λ (m : ℕ). m * (w + 1)) e))

    module _ (head : FirstWidth w) where
      clear : (i : ℕ) → i < n → is_fault s i ≡ false
      clear i h =
          let x = l.whole i h in
          let long = long_is i h in
          let first = long_is 0 (omega arith) in
          right→fault s i (record {
            marks = every→ is_mark (line_at s i).bytes (whole-marks i h);
            long = omega (arith, long, first);
            some = omega (arith, long, head.some);
            most = omega (arith, long, head.most);
            ends = ap (λ (y : Line). y.ends) x.line;
            low = omega (arith, l.few);
          })

      -- ---- where the loop ends
      pub lined_full : at < length s → n ≡ line_max → FaultAt s n
      lined_full h e = fault_first s n (next_counts h) (λ k. omega (arith, (fault→right s n k).low, e)) clear

      -- a line that isn't at fault passes the test
      next_line : is_fault s n ≡ false → is_line (take (w + 1) (drop at s)) w ≡ true
      next_line h = subst (λ (v : ℕ). is_line (take (v + 1) (drop at s)) v ≡ true) (same (dec_le 1 n)) q.1
        where
          q : (prefix_len is_mark (drop at s) ≡ width_of s) × (is_line (take (width_of s + 1) (drop at s)) (width_of s) ≡ true)
          q = right-line s at n next_is h

          same : Dec (1 ≤ n) → width_of s ≡ w
          same (yes k) = long_is 0 k
          same (no k) =
              let none : n ≡ 0 = omega arith in
              let start : at ≡ 0 = ap (λ (m : ℕ). m * (w + 1)) none ∙ zero-mul (w + 1) in
              sym q.0 ∙ ap (λ (p : ℕ). prefix_len is_mark (drop p s)) start ∙ sym head.first

      pub lined_stopped : at < length s → is_line (take (w + 1) (drop at s)) w ≡ false → FaultAt s n
      lined_stopped h e = fault_first s n (next_counts h) (λ k. true≢false (sym (next_line k) ∙ e)) clear

      module _ (done : length s ≤ at) where
        some_bytes : 1 ≤ length s
        some_bytes = omega (arith, head.first, head.some, prefix_len-le-length is_mark s)

        all_lines : n ≡ line_count s
        all_lines = omega (arith, l.count, ap line_count (drop_of_length-le s {i = at} done))

        some-lines : 1 ≤ n
        some-lines = some-line (omega (arith, some_bytes, done))

        good : is_bad_sheet s ≡ false
        good =
            let none = first-all (is_fault s) 0 (line_count s) (λ j _ k. clear j (omega (arith, all_lines, k))) in
            rw (ne_eqb (length s) 0 (λ e. omega (arith, some_bytes, e)), le-ltb (first_fault s) (line_count s) (omega (arith, none)))

        mark_is : (i j : ℕ) → i < n → j < w → get_or s (i * (w + 1) + j) 0 ≡ mark_at s i j
        mark_is i j h k =
            let p = i * (w + 1) in
            sym (get_or-drop p s j 0)
            ∙ sym (get_or-take w (drop p s) j 0 k)
            ∙ ap (λ (y : Line). get_or y.bytes j 0) (sym (l.whole i h).line)

        mark-told : (i j : ℕ) → i < n → j < w → T (is_mark (mark_at s i j))
        mark-told i j h k = every→at is_mark (line_at s i).bytes (whole-marks i h) j (omega (arith, long_is i h, k))

        pub lined_ended : Formed s n w
        lined_ended = record {
          right = good;
          lines = all_lines;
          width = sym (long_is 0 some-lines);
          long = omega (arith, l.within, done);
          some = some-lines;
          most = l.few;
          wide = head.some;
          narrow = head.most;
          marks = mark_is;
          marked = mark-told;
        }
