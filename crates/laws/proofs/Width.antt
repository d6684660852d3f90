-- Degree bounds that are taken, and that what is asked of a width holds of the rules' own (RULES 2 and 5).
--     degree_range, degree_of     a degree bound that is taken lies between the two
--     few_high         tuples at the largest degree bound, in steps that compute
--     narrow_facts     `WidthFacts` of `specs/Widths.antt`, for `narrow`
-- Assumes nothing.
use mathlib.Core.Path.{refl, subst}
use Prim.Native.Nat.{ℕ, ◌-◌, ◌≤◌}
use native.Mathlib.Omega.{arith}
use lib.Dec.{T, leb, leb→le, le→leb}
use Rattle.laws.specs.Limits.{narrow, degree_low, degree_high, is_degree}
use Rattle.laws.specs.Widths.{few, WidthFacts}
use Rattle.laws.proofs.Tests.{T_and, and_T}
use Rattle.laws.proofs.Choose.{few_mono, few_four, few_four_lem}

pub degree_range : {d : ℕ} → T (is_degree d) → (degree_low ≤ d) × (d ≤ degree_high)
degree_range {d} h = let q = T_and (leb degree_low d) (leb d degree_high) h in (leb→le _ _ q.0, leb→le _ _ q.1)

pub degree_of : {d : ℕ} → degree_low ≤ d → d ≤ degree_high → T (is_degree d)
degree_of {d} a b = and_T (leb degree_low d) (leb d degree_high) (le→leb _ _ a) (le→leb _ _ b)

pub few_high : (d n N : ℕ) → d ≤ degree_high → n ≤ N → few n (d - 1) ≤ few_four N
few_high d n N h k = subst (λ (x : ℕ). few n (d - 1) ≤ x) (few_four_lem N) (few_mono n N (d - 1) 4 k (omega arith))

pub narrow_facts : WidthFacts narrow
narrow_facts = record {
  counts = omega arith;
  word = omega arith;
  taxa = omega arith;
  rows = omega arith;
  cluster = refl;
  spare = refl;
  whole = refl;
  tuples = λ d n h k. few_high d n 127 h (omega arith);
  ten = omega arith;
  text = omega arith;
}
