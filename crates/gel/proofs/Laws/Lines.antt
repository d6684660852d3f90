-- The lines of a sheet: `specs/Lines.antt` and the first part of `specs/Form.antt`.
--     lines-some        bytes are a line at least
--     line_parts        the test of a line, part by part
--     LineFrom s at w   a line of w marks starts at a place, and the lines of what follows it are the further ones
--     line_found        where the bytes from a place on pass the test
--     line-ended        where the first line from a place on has marks alone and LF, so many marks stand there, and its bytes pass the test
-- Assumes nothing.
use mathlib.Core.Path.{◌≡◌, refl, sym, ap, ap₂, ◌∙◌, subst}
use mathlib.Core.Bool.{Bool, true, false, cond, true≢false, ◌&&◌}
use mathlib.Core.List.{List, [], ◌∷◌, ◌++◌}
use Prim.Native.Nat.{ℕ, ◌+◌, ◌≤◌}
use borrow.Author.Tests.{eqb-true, eq-eqb, ne_eqb}
use native.Mathlib.Decide.{ℕ_discrete}
use native.Mathlib.Numerals.{add-one}
use native.Mathlib.Omega.{arith}
use lib.Dec.{T, eqb, eqb→eq}
use lib.ListN.{length, get_or, take, drop, length-append, length-drop, length-take}
use lib.Seq.{split_at, take_at, take-append-add, get_or-append_seam, get_or-take, drop-drop}
use Rattle.std.specs.List.{prefix_len}
use Rattle.std.proofs.lemmas.Grind.{common_steps}
use Rattle.laws.specs.Lists.{every}
use Rattle.laws.proofs.Tests.{T_and, T_true, true_T}
use Rattle.gel.specs.Lines.{line_end, is_mark, Line, no_line, in_front, lines_of, line_count, line_at}
use Rattle.gel.specs.Form.{is_line}

-- ---- the first line

mark-inside : (b : ℕ) → T (is_mark b) → eqb b line_end ≡ false
mark-inside b h = ne_eqb b line_end (λ e. subst (λ (x : ℕ). T (is_mark x)) e h)

-- marks and LF in front are the first line
lines-ended : (m rest : List ℕ) → T (every is_mark m) → lines_of (m ++ line_end ∷ rest) ≡ record { bytes = m; ends = true } ∷ lines_of rest
lines-ended [] rest h = refl
lines-ended (b ∷ m) rest h =
    let q = T_and (is_mark b) (every is_mark m) h in
    rw (mark-inside b q.0, lines-ended m rest q.1)

-- a byte in front of lines, where t tells whether it is LF
abbrev before : Bool → ℕ → List Line → List Line
before t b ls = cond t (record { bytes = []; ends = true } ∷ ls) (in_front b ls)

pub lines-some : (s : List ℕ) → 1 ≤ length s → 1 ≤ line_count s
lines-some [] h = absurd (omega arith)
lines-some (b ∷ s) h = go (eqb b line_end) (lines_of s)
  where
    go : (t : Bool) (ls : List Line) → 1 ≤ length (before t b ls)
    go true ls = omega arith
    go false [] = omega arith
    go false (x ∷ ls) = omega arith

abbrev first : List Line → Line
first ls = get_or ls 0 no_line

-- a first line that has an end, and what stands behind
line-apart : (r : List ℕ) → (line_at r 0).ends ≡ true → (rest : List ℕ) × (r ≡ (line_at r 0).bytes ++ line_end ∷ rest)
line-apart [] h = absurd (true≢false (sym h))
line-apart (b ∷ r) h = go (eqb b line_end) refl (lines_of r) (line-apart r) h
  where
    go : (t : Bool) → eqb b line_end ≡ t → (ls : List Line)
        → ((first ls).ends ≡ true → (rest : List ℕ) × (r ≡ (first ls).bytes ++ line_end ∷ rest))
        → (first (before t b ls)).ends ≡ true → (rest : List ℕ) × (b ∷ r ≡ (first (before t b ls)).bytes ++ line_end ∷ rest)
    go true e ls ih k = (r, ap (λ (x : ℕ). x ∷ r) (eqb-true b line_end e))
    go false e [] ih k = absurd (true≢false (sym k))
    go false e (x ∷ ls) ih k = let q = ih k in (q.0, ap (λ (l : List ℕ). b ∷ l) q.1)

-- ---- tests of bytes

-- marks end at LF
marks-end : (m rest : List ℕ) → T (every is_mark m) → prefix_len is_mark (m ++ line_end ∷ rest) ≡ length m
marks-end [] rest h = refl
marks-end (b ∷ m) rest h = let q = T_and (is_mark b) (every is_mark m) h in rw (T_true (is_mark b) q.0, marks-end m rest q.1) (omega arith)

-- the bytes before the last, and the last
long_parts : (m : List ℕ) (e : ℕ) → length (m ++ e ∷ []) ≡ length m + 1
long_parts m e = omega (arith, length-append m (e ∷ []))

pub line_parts : (m : List ℕ) (e w : ℕ) → is_line (m ++ e ∷ []) w ≡ (eqb (length m) w && eqb e line_end && every is_mark m)
line_parts m e w = go (ℕ_discrete (length m) w)
  where
    same : is_line (m ++ e ∷ []) (length m) ≡ (eqb (length m) (length m) && eqb e line_end && every is_mark m)
    same =
        rw (
          eq-eqb (length (m ++ e ∷ [])) (length m + 1) (long_parts m e),
          eq-eqb (length m) (length m) refl,
          get_or-append_seam m e [] 0,
          take_at m (e ∷ []) (length m) refl,
        )

    go : Dec (length m ≡ w) → is_line (m ++ e ∷ []) w ≡ (eqb (length m) w && eqb e line_end && every is_mark m)
    go (yes q) = subst (λ (k : ℕ). is_line (m ++ e ∷ []) k ≡ (eqb (length m) k && eqb e line_end && every is_mark m)) q same
    go (no n) =
        rw (ne_eqb (length (m ++ e ∷ [])) (w + 1) (λ q. n (omega (arith, q, long_parts m e))), ne_eqb (length m) w n)

-- ---- a line

take-take : (i j : ℕ) (l : List ℕ) → i ≤ j → take i (take j l) ≡ take i l
take-take i j l h = grind (arith, common_steps)

module _ (s : List ℕ) (at : ℕ) where
  pub record LineFrom (w : ℕ) : Type 0 where
    pub within : at + (w + 1) ≤ length s
    pub marks : T (every is_mark (take w (drop at s)))
    pub lines : lines_of (drop at s) ≡ record { bytes = take w (drop at s); ends = true } ∷ lines_of (drop (at + (w + 1)) s)

  -- where the bytes pass the test
  module _ (w : ℕ) (within : at ≤ length s) (h : is_line (take (w + 1) (drop at s)) w ≡ true) where
    abbrev x : List ℕ
    x = take (w + 1) (drop at s)

    tests : (T (eqb (length x) (w + 1)) × T (eqb (get_or x w 0) line_end)) × T (every is_mark (take w x))
    tests =
        let q = T_and (eqb (length x) (w + 1) && eqb (get_or x w 0) line_end) (every is_mark (take w x)) (true_T h) in
        (T_and (eqb (length x) (w + 1)) (eqb (get_or x w 0) line_end) q.0, q.1)

    in_sheet : at + (w + 1) ≤ length s
    in_sheet = omega (arith, within, eqb→eq (length x) (w + 1) tests.0.0, length-drop at s, length-take (w + 1) (drop at s))

    front : take w x ≡ take w (drop at s)
    front = take-take w (w + 1) (drop at s) (omega arith)

    last : get_or (drop at s) w 0 ≡ line_end
    last = sym (get_or-take (w + 1) (drop at s) w 0 (omega arith)) ∙ eqb→eq (get_or x w 0) line_end tests.0.1

    all-marks : T (every is_mark (take w (drop at s)))
    all-marks = subst (λ (l : List ℕ). T (every is_mark l)) front tests.1

    parts : drop at s ≡ take w (drop at s) ++ line_end ∷ drop (at + (w + 1)) s
    parts =
        let after = ap (λ (n : ℕ). drop n (drop at s)) (sym (add-one w)) ∙ drop-drop (w + 1) at s in
        split_at (drop at s) w 0 (omega (arith, length-drop at s, in_sheet))
        ∙ ap₂ (λ (b : ℕ) (r : List ℕ). take w (drop at s) ++ b ∷ r) last after

    pub line_found : LineFrom w
    line_found = record {
      within = in_sheet;
      marks = all-marks;
      lines = ap lines_of parts ∙ lines-ended (take w (drop at s)) (drop (at + (w + 1)) s) all-marks;
    }

-- where the first line has marks alone, and LF
pub line-ended : (r : List ℕ) → (line_at r 0).ends ≡ true → T (every is_mark (line_at r 0).bytes)
    → let w = length (line_at r 0).bytes in (prefix_len is_mark r ≡ w) × (is_line (take (w + 1) r) w ≡ true)
line-ended r e h = (ap (prefix_len is_mark) q.1 ∙ marks-end m q.0 h, ap (λ (l : List ℕ). is_line l (length m)) front ∙ line)
  where
    q : (rest : List ℕ) × (r ≡ (line_at r 0).bytes ++ line_end ∷ rest)
    q = line-apart r e

    m : List ℕ
    m = (line_at r 0).bytes

    front : take (length m + 1) r ≡ m ++ line_end ∷ []
    front = ap (take (length m + 1)) q.1 ∙ take-append-add m (line_end ∷ q.0) 1

    line : is_line (m ++ line_end ∷ []) (length m) ≡ true
    line = line_parts m line_end (length m) ∙ rw (eq-eqb (length m) (length m) refl, T_true (every is_mark m) h)
