-- What the private functions that take a sheet apart cite.
--     is_bit b                 the byte is 0 or 1
--     is_line x w             these bytes are w marks and the end of a line
--     Formed s n w            a sheet with no line at fault, its n lines of w marks, and where each mark stands
--     FaultAt s i             a sheet with a line at fault, of which i is the first
--     read_of x               what reading a column gives: its cluster, none where it has a ?
--     given x                 the same as a number: no taxa where it has a ?
-- Assumes nothing.
use Rattle.std.specs.Prelude.{◌≡◌, Bool, false, cond, ◌&&◌, ◌||◌, List, ℕ, ◌+◌, ◌*◌, ◌≤◌, ◌<◌, T, eqb, length, get_or, take, Option, Some, None}
use Rattle.laws.specs.Lists.{every}
use Rattle.gel.specs.Lines.{line_end, nought, one, is_mark, line_max, width_max, line_count, width_of, first_fault, is_bad_sheet}
use Rattle.gel.specs.Columns.{mark_at, is_unread, cluster_of}

abbrev pub is_bit : ℕ → Bool
is_bit b = eqb b nought || eqb b one

abbrev pub is_line : List ℕ → ℕ → Bool
is_line x w = eqb (length x) (w + 1) && eqb (get_or x w 0) line_end && every is_mark (take w x)

abbrev pub read_of : List ℕ → Option ℕ
read_of x = cond (is_unread x) None (Some (cluster_of x))

abbrev pub given : List ℕ → ℕ
given x = cond (is_unread x) 0 (cluster_of x)

module _ (s : List ℕ) where
  pub record Formed (n w : ℕ) : Type 0 where
    pub right : is_bad_sheet s ≡ false
    pub lines : n ≡ line_count s
    pub width : w ≡ width_of s
    pub long : length s ≡ n * (w + 1)
    pub some : 1 ≤ n
    pub most : n ≤ line_max
    pub wide : 1 ≤ w
    pub narrow : w ≤ width_max
    pub marks : (i j : ℕ) → i < n → j < w → get_or s (i * (w + 1) + j) 0 ≡ mark_at s i j
    pub marked : (i j : ℕ) → i < n → j < w → T (is_mark (mark_at s i j))

  pub record FaultAt (i : ℕ) : Type 0 where
    pub bad : T (is_bad_sheet s)
    pub first : i ≡ first_fault s
