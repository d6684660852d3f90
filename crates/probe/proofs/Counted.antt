-- A number still counts bytes at the start of a room whose start was lent and came back, whatever stands in it.
--     counts_back     a number within the length counts there
-- Assumes nothing.
use mathlib.Core.Path.{◌≡◌, sym}
use mathlib.Core.List.{List, ◌++◌}
use Prim.Native.Nat.{ℕ, ◌≤◌}
use native.Mathlib.Omega.{arith}
use lib.ListN.{length, take, drop, length-append}
use lib.Seq.{length-take-le}
use Rattle.input.specs.Counts.{IsPrefixLen}

pub counts_back : (n : ℕ) (l start : List ℕ) → n ≤ length l → length start ≡ length (take n l) → IsPrefixLen n (start ++ drop n l)
counts_back n l start h e =
    let long : n ≤ length (start ++ drop n l) = simp (length-append, e, length-take-le n l h) (omega arith) in
    (long, sym (length-take-le n (start ++ drop n l) long))
