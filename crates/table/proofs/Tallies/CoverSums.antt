-- Sums over the covers of a cluster by parts that keep what sums keep: they keep it too, and count few tuples.
--     covers-few               how many covers of at most n parts there are
--     sum_covers_keeps          the sum over the covers
--     sum_covers-count, sum_covers-few     the number of tuples is that of the covers, and so at most so many
-- Assumes nothing.
use mathlib.Core.Path.{◌≡◌, subst}
use mathlib.Core.Bool.{Bool, true, false, cond}
use mathlib.Core.List.{List, [], ◌∷◌, map}
use mathlib.Core.List.{Memᴰ as Mem}
use Prim.Native.Nat.{ℕ, zero, suc, ◌+◌, ◌-◌, ◌^◌, ◌≤◌, zero-le}
use native.Mathlib.Nat.{pow-zero, one-le-pow, pow-le-pow_left, pow-succ', mul-le-mul_left, le_refl, le_trans}
use native.Mathlib.Omega.{arith}
use lib.Dec.{T, eqb}
use lib.ListN.{length, length-append, length-map}
use Rattle.laws.specs.Cluster.{inside, union_of}
use Rattle.laws.specs.Lists.{keep, sublists}
use Rattle.laws.proofs.Keep.{mem_of_keep, length-keep-le}
use Rattle.laws.proofs.Sublists.{mem_of_sublist}
use Rattle.trees.specs.Rows.{Entry, cl, sc}
use Rattle.trees.specs.Tuple.{all_apart}
use Rattle.trees.specs.Cover.{is_cover, covers_of}
use Rattle.trees.specs.Solution.{count_kind, sol_kind, Res}
use Rattle.trees.proofs.Searching.Covers.{cover→, take_if, chosen, chosen_is}
use Rattle.trees.proofs.Formula.Kind.{hom_second}
use Rattle.table.specs.Columns.{sum_kind, sum_covers}
use Rattle.table.proofs.Tuples.Searched.{sum_covers_over}
use Rattle.table.proofs.Tallies.Held.{Keeps, Part, sum_keeps, sum-count}

-- ---- how many covers

-- one row more, taken or passed over
more-le : (n l x y : ℕ) → x ≤ suc l ^ suc n → y ≤ suc l ^ n → x + y ≤ suc (suc l) ^ suc n
more-le n l x y h k =
    let up = mul-le-mul_left (suc (suc l)) (pow-le-pow_left {n = suc l} {m = suc (suc l)} (omega arith) n) in
    omega (arith, pow-succ' (suc l) n, pow-succ' (suc (suc l)) n)

module _ {A : Type 0} where
  take-le : (b : Bool) (e : Entry A) (τs : List (List (Entry A))) → length (take_if b e τs) ≤ length τs
  take-le true e τs = omega (arith, length-map τs (λ (τ : List (Entry A)). e ∷ τ))
  take-le false e τs = zero-le

  if_le : (b : Bool) (τs : List (List (Entry A))) → length (cond b τs []) ≤ length τs
  if_le true τs = le_refl (length τs)
  if_le false τs = zero-le

  chosen-few : (n R : ℕ) (es : List (Entry A)) → length (chosen n R es) ≤ suc (length es) ^ n
  chosen-few n R [] = le_trans (if_le (eqb 0 R) ([] ∷ [])) (one-le-pow n 1 (omega arith))
  chosen-few zero R (e ∷ es) = omega (arith, chosen-few zero R es, pow-zero (suc (length es)), pow-zero (suc (suc (length es))))
  chosen-few (suc n) R (e ∷ es) =
      let xs = chosen (suc n) R es in
      let ys = chosen n (R - cl e) es in
      let h = more-le n (length es) (length xs) (length ys) (chosen-few (suc n) R es) (chosen-few n (R - cl e) es) in
      omega (arith, length-append xs (take_if (inside (cl e) R) e ys), take-le (inside (cl e) R) e ys)

  pub covers-few : (n R : ℕ) (es : List (Entry A)) → length (covers_of n R es) ≤ suc (length es) ^ n
  covers-few n R es = subst (λ (τs : List (List (Entry A))). length τs ≤ suc (length es) ^ n) (chosen_is n R es) (chosen-few n R es)

-- ---- sums over the covers by scored rows

module _ (cs : List ℕ) (b : ℕ) (es : List (Entry Res)) (parts : (e : Entry Res) → Mem e es → T (sc e) → Part cs b e) where
  row_part : (n R : ℕ) (τ : List (Entry Res)) → Mem τ (covers_of n R (keep sc es)) → (e : Entry Res) → Mem e τ → Part cs b e
  row_part n R τ m e k =
      let p = (mem_of_keep (is_cover n R) (sublists (keep sc es)) m).0 in
      let q = mem_of_keep sc es (mem_of_sublist (keep sc es) τ p e k) in
      parts e q.0 q.1

  pub sum_covers_keeps : (n R : ℕ) → Keeps cs b 0 R (sum_covers n R es).1
  sum_covers_keeps n R =
      rw (sum_covers_over n R es)
      (sum_keeps cs b sum_kind (λ (x : Res). x.1) (λ (c : ℕ). 0) (hom_second count_kind (sol_kind (λ (c : ℕ). 0))) 0 R
      (covers_of n R (keep sc es)) makes (λ τ m e k. (row_part n R τ m e k).keeps))
    where
      makes : (τ : List (Entry Res)) → Mem τ (covers_of n R (keep sc es))
          → (0 ≤ length τ) × T (all_apart (map cl τ)) × (union_of (map cl τ) ≡ R)
      makes τ m =
          let f = cover→ n R (map cl τ) (mem_of_keep (is_cover n R) (sublists (keep sc es)) m).1 in
          (zero-le, f.apart, f.union)

  pub sum_covers-count : (n R : ℕ) → (sum_covers n R es).0 ≡ length (covers_of n R (keep sc es))
  sum_covers-count n R = rw (sum_covers_over n R es) (sum-count (covers_of n R (keep sc es)) (λ τ m e k. (row_part n R τ m e k).one))

  pub sum_covers-few : (n R : ℕ) → (sum_covers n R es).0 ≤ suc (length es) ^ n
  sum_covers-few n R =
      let fewer = pow-le-pow_left {n = suc (length (keep sc es))} {m = suc (length es)} (omega (arith, length-keep-le sc es)) n in
      omega (arith, sum_covers-count n R, covers-few n R (keep sc es))
