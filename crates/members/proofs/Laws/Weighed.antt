-- Weights of 32 bits added up in 64: no sum of 128 of them is too large.
--     near_fits       a sum of so many weights fits 64 bits
--     cast_fits, cast_back     a weight of 32 bits fits 64, and is the same there
--     weight_skips, weight_takes     the weights of the marked rows: one row more, marked or not
-- Assumes nothing.
use mathlib.Core.Path.{◌≡◌, ap, ◌∙◌}
use mathlib.Core.Bool.{true, false}
use mathlib.Core.List.{List, map}
use Prim.Native.Nat.{ℕ, ◌+◌, ◌*◌, ◌≤◌, ◌<◌}
use native.Mathlib.Omega.{arith}
use lib.IntN.{ℤ, pos, nat_abs, ◌+ℤ◌, +ℤ_comm}
use lib.ListN.{get_or}
use lib.Signed.{mag}
use mir.Facts.{to_z-of_z, sfits_widen}
use mir.Syntax.{w32, w64}
use mir.Val.{SFits, to_z, of_z}
use Rattle.laws.specs.Limits.{row_cap}
use Rattle.laws.proofs.Integers.{mag_le_abs}
use Rattle.kept.specs.Marks.{has_mark}
use Rattle.members.specs.Marked.{total, weight_to}
use Rattle.members.specs.Gathered.{weight_span}
use Rattle.members.proofs.Laws.Marked.{marked_takes, marked_skips}

pub near_fits : (z : ℤ) (i : ℕ) → i ≤ row_cap → nat_abs z ≤ weight_span * i → SFits w64 z
near_fits z i h k = record { sfits = omega (arith, mag_le_abs z) }

module _ (z : ℤ) (h : mag z < weight_span) where
  small : SFits w32 z
  small = record { sfits = h }

  pub cast_fits : SFits w64 (to_z w32 (of_z w32 z))
  cast_fits = rw (to_z-of_z small) (sfits_widen tt small)

  pub cast_back : to_z w64 (of_z w64 (to_z w32 (of_z w32 z))) ≡ z
  cast_back = ap (λ (x : ℤ). to_z w64 (of_z w64 x)) (to_z-of_z small) ∙ to_z-of_z {w = w64} (sfits_widen {w = w32} {w' = w64} (tt {0}) small)

module _ (ws : List ℤ) (m i : ℕ) where
  -- the weights of some rows added up
  abbrev weigh : List ℕ → ℤ
  weigh l = total (map (λ (i : ℕ). get_or ws i (pos 0)) l)

  pub weight_skips : has_mark m i ≡ false → weight_to ws m (i + 1) ≡ weight_to ws m i
  weight_skips e = ap weigh (marked_skips m i e)

  pub weight_takes : has_mark m i ≡ true → weight_to ws m (i + 1) ≡ weight_to ws m i +ℤ get_or ws i (pos 0)
  weight_takes e = ap weigh (marked_takes m i e) ∙ +ℤ_comm (get_or ws i (pos 0)) (weight_to ws m i)
