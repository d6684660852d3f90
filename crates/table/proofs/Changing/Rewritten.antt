-- A part of a list rewritten. For `Changed.antt`.
--     put l v p n                                    l with v in the place of the n elements from place p on
--     put-length, put_same, put-before, put_after    as long as l; that part is v; parts before it and behind it are those of l
-- Assumes nothing.
use mathlib.Core.Path.{◌≡◌, sym, ap, ◌∙◌}
use mathlib.Core.List.{List, ◌++◌, append_assoc}
use Prim.Native.Nat.{ℕ, ◌+◌, ◌-◌, ◌≤◌}
use native.Mathlib.Omega.{arith}
use lib.ListN.{length, take, drop, length-append, length-drop, take-append-drop}
use lib.Seq.{length-take-le, take_at, drop_at, take-append-le, drop-append-le, drop-append-add, drop-drop}

-- ---- a part of a list rewritten

module _ {A : Type 0} where
  -- a part that lies in the first of two lists
  part_front : (xs ys : List A) (k n : ℕ) → k + n ≤ length xs → take n (drop k (xs ++ ys)) ≡ take n (drop k xs)
  part_front xs ys k n h =
      ap (take n) (drop-append-le k xs ys (omega arith)) ∙ take-append-le n (drop k xs) ys (omega (arith, length-drop k xs))

  module _ (l v : List A) (p n : ℕ) (long : length v ≡ n) (room : p + n ≤ length l) where
    abbrev pub front : List A
    front = take p l ++ v

    abbrev pub put : List A
    put = front ++ drop (p + n) l

    length_front : length front ≡ p + n
    length_front = length-append (take p l) v ∙ omega (arith, length-take-le p l (omega arith), long)

    pub put-length : length put ≡ length l
    put-length = length-append front (drop (p + n) l) ∙ omega (arith, length_front, length-drop (p + n) l)

    pub put_same : take n (drop p put) ≡ v
    put_same =
        ap (λ (x : List A). take n (drop p x)) (append_assoc (take p l) v (drop (p + n) l))
        ∙ ap (take n) (drop_at (take p l) (v ++ drop (p + n) l) p (length-take-le p l (omega arith)))
        ∙ take_at v (drop (p + n) l) n long

    pub put-before : (k : ℕ) → k + n ≤ p → take n (drop k put) ≡ take n (drop k l)
    put-before k h =
        let short : k + n ≤ length (take p l) = omega (arith, length-take-le p l (omega arith)) in
        ap (λ (x : List A). take n (drop k x)) (append_assoc (take p l) v (drop (p + n) l))
        ∙ part_front (take p l) (v ++ drop (p + n) l) k n short
        ∙ sym (part_front (take p l) (drop p l) k n short)
        ∙ ap (λ (x : List A). take n (drop k x)) (take-append-drop p l)

    pub put_after : (k : ℕ) → p + n ≤ k → take n (drop k put) ≡ take n (drop k l)
    put_after k h =
        let place : k ≡ length front + (k - (p + n)) = omega (arith, length_front) in
        let back : (p + n) + (k - (p + n)) ≡ k = omega arith in
        ap (take n) (
        ap (λ (j : ℕ). drop j put) place
        ∙ drop-append-add front (drop (p + n) l) (k - (p + n))
        ∙ drop-drop (k - (p + n)) (p + n) l
        ∙ ap (λ (j : ℕ). drop j l) back)
