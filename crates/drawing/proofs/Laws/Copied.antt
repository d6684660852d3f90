-- A list copied over the front of another, number by number.
--     copied_more     one number more
--     mem_at          what stands at a place is a member
--     narrow_at       each of some clusters of 32 bits is a number of 32 bits
-- Assumes nothing.
use mathlib.Core.Path.{◌≡◌, refl, ap, ◌∙◌}
use mathlib.Core.List.{List, [], ◌∷◌, ◌++◌}
use mathlib.Core.List.Memᴰ.{head as here}
use mathlib.Core.List.Memᴰ.{tail as there}
use mathlib.Core.List.{Memᴰ as Mem}
use Prim.Native.Nat.{ℕ, zero, suc, ◌+◌, ◌^◌, ◌≤◌, ◌<◌}
use native.Mathlib.Nat.{zero-add}
use native.Mathlib.Numerals.{add-one}
use native.Mathlib.Omega.{arith}
use lib.ListN.{length, get_or, set, take, drop}
use lib.Seq.{paste, paste-suc}
use Rattle.drawing.specs.Gathered.{Narrow}

-- a copy to the front is one to place 0
front : (d s : List ℕ) (k : ℕ) → paste d 0 s k ≡ take k s ++ drop k d
front d s k = ap (λ (j : ℕ). take k s ++ drop j d) (zero-add k)

pub copied_more : (d s room : List ℕ) (i : ℕ) → room ≡ take i s ++ drop i d → i < length s → length s ≤ length d
    → set room i (get_or s i 0) ≡ take (i + 1) s ++ drop (i + 1) d
copied_more d s room i e h fits =
    rw (e, add-one i, ← front d s i, ← front d s (suc i))
    (ap (λ (j : ℕ). set (paste d 0 s i) j (get_or s i 0)) (omega arith) ∙ paste-suc d 0 s i 0 (omega arith) h)

pub mem_at : (l : List ℕ) (i : ℕ) → i < length l → Mem (get_or l i 0) l
mem_at [] i h = absurd (omega arith)
mem_at (x ∷ xs) zero h = here refl
mem_at (x ∷ xs) (suc i) h = there (mem_at xs i (omega arith))

pub narrow_at : (l : List ℕ) (i : ℕ) → Narrow l → i < length l → get_or l i 0 < 2 ^ 32
narrow_at l i n h = n (get_or l i 0) (mem_at l i h)
