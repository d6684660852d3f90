-- What the private functions that test fitness cite: one row by value, and the marks of one word. Laws: `proofs/Laws/Words.antt`.
--     listed_in, result_in, entry_in    the fields of a row: what was listed, what was worked out, both
--     every_bit m k p                 of the first k bits of m, each that is set passes p
--     is_mark_fit cs c b k             row b + k is one of those whose clusters are cs, and its cluster lies inside c
--     AtRow cs i r                   r is row i of those whose ascending clusters are cs
-- Assumes nothing.
use Rattle.std.specs.Prelude.{◌≡◌, Bool, not, ◌&&◌, ◌||◌, List, ℕ, ◌+◌, ◌*◌, ◌≤◌, ◌<◌, ltb, get_or, length}
use Rattle.laws.specs.Cluster.{inside}
use Rattle.laws.specs.Limits.{row_cap, word_values}
use Rattle.laws.specs.Lists.{every}
use Rattle.laws.specs.Orders.{places}
use Rattle.laws.specs.Row.{Row}
use Rattle.trees.specs.Rows.{Entry}
use Rattle.trees.specs.Result.{Result}
use Rattle.kept.specs.declared.fields.Fields.{Fields}
use Rattle.kept.specs.Marks.{has_mark}
use Rattle.kept.specs.Arrays.{Rising}

-- ---- one row
abbrev pub listed_in : Fields → Row
listed_in r = record { cluster = r.cluster; weight = r.weight; state = r.state }

abbrev pub result_in : Fields → Result
result_in r = record {
  length = r.length;
  count = r.count;
  mark = r.mark;
  best = r.best;
  members = r.low + word_values * r.high;
}

abbrev pub entry_in : Fields → Entry Result
entry_in r = record { row = listed_in r; val = result_in r }

-- ---- one word of marks
unfoldable pub every_bit : ℕ → ℕ → (ℕ → Bool) → Bool
every_bit m k p = every (λ (i : ℕ). not (has_mark m i) || p i) (places k)

abbrev pub is_mark_fit : List ℕ → ℕ → ℕ → ℕ → Bool
is_mark_fit cs c b k = ltb (b + k) (length cs) && inside (get_or cs (b + k) 0) c

-- ---- what the tests may count on
pub record AtRow (cs : List ℕ) (i : ℕ) (r : Fields) : Type 0 where
  pub rising : Rising cs (length cs)
  pub capped : length cs ≤ row_cap
  pub place : i < length cs
  pub own : r.cluster ≡ get_or cs i 0
