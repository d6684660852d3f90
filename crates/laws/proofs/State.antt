-- The states of a record.
--     state-le     a state is 0 or 1
--     scored_state_lem, scored_is     the state with a score is scored, and no other is
-- Assumes nothing.
use mathlib.Core.Path.{◌≡◌}
use mathlib.Core.Logic.{◌⊎◌, inl, inr}
use Prim.Native.Nat.{ℕ, ◌≤◌}
use native.Mathlib.Omega.{arith}
use lib.Dec.{T, eqb, eqb→eq}
use Rattle.laws.specs.State.{unscored, scored_state, scored, is_state}
use Rattle.laws.proofs.Tests.{T-or}

pub state-le : (s : ℕ) → T (is_state s) → s ≤ 1
unfolding scored
state-le s h = go (T-or (eqb s unscored) (eqb s 1) h)
  where
    go : T (eqb s unscored) ⊎ T (eqb s 1) → s ≤ 1
    go (inl k) = omega (arith, eqb→eq s 0 k)
    go (inr k) = omega (arith, eqb→eq s 1 k)

pub scored_state_lem : T (scored scored_state)
unfolding scored
scored_state_lem = tt

pub scored_is : (s : ℕ) → T (scored s) → s ≡ scored_state
unfolding scored
scored_is s h = eqb→eq s scored_state h
