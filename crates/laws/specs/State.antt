-- The states of a record or a row (RULES 2): 1 is scored, 0 is unscored. Said here once: a further state is a line here.
--     unscored, scored_state     the numbers of the states without a score, and with one
--     scored s       the state s is that of a scored cluster
--     is_state s      s is a state
-- Assumes nothing.
use Rattle.std.specs.Prelude.{Bool, ◌||◌, ℕ, eqb}

abbrev pub unscored : ℕ
unscored = 0

abbrev pub scored_state : ℕ
scored_state = 1

unfoldable pub scored : ℕ → Bool
scored s = eqb s scored_state

abbrev pub is_state : ℕ → Bool
is_state s = eqb s unscored || scored s
