-- A cluster with its score, as numbers: what a record holds and a row of a table was listed with (RULES 2). No width is asked of it.
--     Row             cluster, weight, state
--     is_scored r      the row is scored
-- Assumes nothing.
use Rattle.std.specs.Prelude.{Bool, ℕ, ℤ}
use Rattle.laws.specs.State.{scored}

pub record Row : Type 0 where
  pub cluster : ℕ
  pub weight : ℤ
  pub state : ℕ

abbrev pub is_scored : Row → Bool
is_scored r = scored r.state
