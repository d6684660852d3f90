-- The arrays of a table as the private functions see them.
--     Rising cs n     the first n clusters are there, and ascend
--     Sized t         every array has room for 128 rows
-- Assumes nothing.
use Rattle.std.specs.Prelude.{◌≡◌, List, ℕ, ◌≤◌, ◌<◌, length, get_or}
use Rattle.laws.specs.Limits.{row_cap}
use Rattle.kept.specs.declared.table.Table.{Table}

pub record Rising (cs : List ℕ) (n : ℕ) : Type 0 where
  pub long : n ≤ length cs
  pub up : (i j : ℕ) → i < j → j < n → get_or cs i 0 < get_or cs j 0

pub record Sized (t : Table) : Type 0 where
  pub clusters : length t.clusters ≡ row_cap
  pub weights : length t.weights ≡ row_cap
  pub states : length t.states ≡ row_cap
  pub lengths : length t.lengths ≡ row_cap
  pub counts : length t.counts ≡ row_cap
  pub marks : length t.marks ≡ row_cap
  pub bests : length t.bests ≡ row_cap
  pub lows : length t.members_low ≡ row_cap
  pub highs : length t.members_high ≡ row_cap
