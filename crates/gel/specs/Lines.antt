-- The lines of a gel sheet, and the first of them at fault (RULES 13). A sheet is any bytes.
--     line_end, nought, one, unread     the bytes that a sheet is written with: LF, 0, 1 and ?
--     is_mark b            the byte is 0, 1 or ?
--     line_max, width_max   how many lines a sheet may have, and how many marks a line
--     Line                a line: its bytes, and whether LF ends it
--     in_front, lines_of s  a byte in front of the first line; the lines of a sheet: bytes after the last LF are a line that has no end
--     line_count, line_at, no_line, width_of s     how many lines; line i, counted from 0, which is empty where there is none; the length of line 0
--     is_fault s i         line i is at fault
--     first_fault s        the first line at fault; the number of lines where none is
--     is_bad_sheet s        the sheet has no bytes, or a line at fault
-- Assumes nothing.
use Rattle.std.specs.Prelude.{Bool, true, false, not, cond, ◌&&◌, ◌||◌, List, [], ◌∷◌, ℕ, eqb, leb, ltb, length, get_or}
use Rattle.laws.specs.Limits.{narrow}
use Rattle.laws.specs.Lists.{every}
use Rattle.laws.specs.Orders.{first_from}

-- ---- the bytes of a sheet

abbrev pub line_end : ℕ
line_end = 10

abbrev pub nought : ℕ
nought = 48

abbrev pub one : ℕ
one = 49

abbrev pub unread : ℕ
unread = 63

abbrev pub is_mark : ℕ → Bool
is_mark b = eqb b nought || eqb b one || eqb b unread

-- a line for each taxon
abbrev pub line_max : ℕ
line_max = narrow.taxa

abbrev pub width_max : ℕ
width_max = 128

-- ---- its lines

pub record Line : Type 0 where
  -- the bytes before its end
  pub bytes : List ℕ
  pub ends : Bool

abbrev pub no_line : Line
no_line = record { bytes = []; ends = false }

-- a byte in front of the first line
abbrev pub in_front : ℕ → List Line → List Line
in_front b [] = record { bytes = b ∷ []; ends = false } ∷ []
in_front b (x ∷ xs) = record { bytes = b ∷ x.bytes; ends = x.ends } ∷ xs

abbrev pub lines_of : List ℕ → List Line
lines_of [] = []
lines_of (b ∷ s) = cond (eqb b line_end) (record { bytes = []; ends = true } ∷ lines_of s) (in_front b (lines_of s))

module _ (s : List ℕ) where
  abbrev pub line_count : ℕ
  line_count = length (lines_of s)

  abbrev pub line_at : ℕ → Line
  line_at i = get_or (lines_of s) i no_line

  abbrev pub width_of : ℕ
  width_of = length (line_at 0).bytes

  -- ---- faults
  -- a byte that isn't a mark; a length other than line 0's, or that is 0 or above 128; no LF; a line too many
  abbrev pub is_fault : ℕ → Bool
  is_fault i =
      not (every is_mark (line_at i).bytes)
      || not (eqb (length (line_at i).bytes) width_of)
      || not (leb 1 (length (line_at i).bytes) && leb (length (line_at i).bytes) width_max)
      || not (line_at i).ends
      || leb line_max i

  abbrev pub first_fault : ℕ
  first_fault = first_from is_fault 0 line_count

  abbrev pub is_bad_sheet : Bool
  is_bad_sheet = eqb (length s) 0 || ltb first_fault line_count
