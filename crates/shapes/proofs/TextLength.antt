-- How long a text can be: each taxon stands for its figures and three bytes more at most, a comma and the two parentheses of a vertex.
--     cost_in w c         the taxa of c in the width, each for its figures and three
--     full_cost w         all taxa of the width
--     print-length-le    a printed shape is three bytes shorter than that at least
--     full-le            ten taxa of one figure, the others of two
--     text-length-le     a text has five bytes for each taxon of the width at most, less twelve
-- Assumes nothing.
use mathlib.Core.Path.{◌≡◌, ap}
use mathlib.Core.Bool.{Bool, true, false, cond}
use mathlib.Core.List.{[], ◌∷◌}
use Prim.Native.Nat.{ℕ, zero, suc, ◌+◌, ◌*◌, ◌^◌, ◌≤◌, ◌<◌}
use native.Mathlib.Decide.{dec_le, ℕ_discrete}
use native.Mathlib.Nat.{le_refl}
use native.Mathlib.Omega.{arith}
use lib.Bits.{bit_or}
use lib.Dec.{T}
use lib.ListN.{length, length-append}
use Rattle.laws.specs.Cluster.{inside, apart, union_of}
use Rattle.laws.specs.Lists.{every, Once}
use Rattle.laws.proofs.Tests.{T_and, T_true}
use Rattle.laws.proofs.Digits.{has_lt, has_pow}
use Rattle.laws.proofs.Cluster.{inside_refl, inside_trans, le_of_inside, inside-union_l, inside-union_r, has_of_inside}
use Rattle.laws.proofs.Cluster.{apart→, apart-union_of}
use Rattle.trees.specs.Tuple.{all_apart}
use Rattle.shapes.specs.Decimal.{figures, decimal}
use Rattle.shapes.specs.Shape.{Shape, taxon, vertex, Shapes, none, more, top_of, tops_of, vertices_of, is_ordered, are_ordered}
use Rattle.shapes.specs.Text.{semicolon, after_commas, print, print_each, text_bytes}
use Rattle.shapes.proofs.Decimal.{decimal_two}
use Rattle.shapes.proofs.Shape.{ordered→, is_apart, are_apart, apart_of_once}

abbrev cost : ℕ → ℕ
cost t = 3 + length (decimal t)

abbrev cost_in : ℕ → ℕ → ℕ
cost_in zero c = 0
cost_in (suc w) c = cond (inside (2 ^ w) c) (cost w) 0 + cost_in w c

unfoldable full_cost : ℕ → ℕ
full_cost zero = 0
full_cost (suc w) = 3 + length (decimal w) + full_cost w

-- ---- costs of clusters

cost_le : (w c : ℕ) → cost_in w c ≤ full_cost w
unfolding full_cost
cost_le zero c = le_refl 0
cost_le (suc w) c = go (inside (2 ^ w) c) (cost_le w c)
  where
    go : (b : Bool) → cost_in w c ≤ full_cost w → cond b (cost w) 0 + cost_in w c ≤ 3 + length (decimal w) + full_cost w
    go true h = omega arith
    go false h = omega arith

cost_taxon : (w t : ℕ) → t < w → cost t ≤ cost_in w (2 ^ t)
cost_taxon zero t h = absurd (omega arith)
cost_taxon (suc w) t h = go (ℕ_discrete t w) (λ k. cost_taxon w t k)
  where
    go : Dec (t ≡ w) → (t < w → cost t ≤ cost_in w (2 ^ t)) → cost t ≤ cost_in (suc w) (2 ^ t)
    go (yes e) ih = rw (e, T_true (inside (2 ^ w) (2 ^ w)) (inside_refl (2 ^ w))) (omega arith)
    go (no n) ih = omega (arith, ih (omega arith))

-- one taxon is in one of two clusters that are apart, and then in their union
cost_one : (n : ℕ) (a b u : Bool) → (T a → T u) → (T b → T u) → (T a → T b → ⊥) → cond a n 0 + cond b n 0 ≤ cond u n 0
cost_one n true true u f g h = absurd (h tt tt)
cost_one n true false true f g h = omega arith
cost_one n true false false f g h = absurd (f tt)
cost_one n false true true f g h = omega arith
cost_one n false true false f g h = absurd (g tt)
cost_one n false false u f g h = omega arith

cost_union : (w a b : ℕ) → T (apart a b) → cost_in w a + cost_in w b ≤ cost_in w (bit_or a b)
cost_union zero a b h = le_refl 0
cost_union (suc w) a b h = omega (arith, one, cost_union w a b h)
  where
    one : cond (inside (2 ^ w) a) (cost w) 0 + cond (inside (2 ^ w) b) (cost w) 0 ≤ cond (inside (2 ^ w) (bit_or a b)) (cost w) 0
    one =
        cost_one (cost w) (inside (2 ^ w) a) (inside (2 ^ w) b) (inside (2 ^ w) (bit_or a b))
        (λ i. inside_trans (2 ^ w) a (bit_or a b) i (inside-union_l a b)) (λ i. inside_trans (2 ^ w) b (bit_or a b) i (inside-union_r a b))
        (λ i j. apart→ a b h w (has_of_inside w a i) (has_of_inside w b j))

-- ---- printed shapes

-- a vertex: two parentheses, and one comma fewer than children
vertex-length : (ss : Shapes) → 2 ≤ length (tops_of ss) → length (print (vertex ss)) ≡ suc (length (after_commas (print_each ss)))
vertex-length none h = absurd (omega arith)
vertex-length (more s ss) h = simp (length-append) (omega arith)

module _ (w : ℕ) where
  abbrev Short : Shape → Type 0
  Short s = length (print s) + 3 ≤ cost_in w (top_of s)

  mutual
    print-length-le : (s : Shape) → T (is_ordered s) → T (is_apart s) → top_of s < 2 ^ w → Short s
    print-length-le (taxon t) o a h = omega (arith, cost_taxon w t (has_lt w (2 ^ t) t h (has_pow t)))
    print-length-le (vertex ss) o a h =
        let q = ordered→ ss o in
        let r = T_and (all_apart (tops_of ss)) (are_apart ss) a in
        let e = vertex-length ss q.two in
        omega (arith, q.two, each-length-le ss q.each r.0 r.1 h)

    each-length-le : (ss : Shapes) → T (are_ordered ss) → T (all_apart (tops_of ss)) → T (are_apart ss) → union_of (tops_of ss) < 2 ^ w
        → length (after_commas (print_each ss)) + 2 * length (tops_of ss) ≤ cost_in w (union_of (tops_of ss))
    each-length-le none o p a h = omega arith
    each-length-le (more s ss) o p a h =
        let U = union_of (tops_of ss) in
        let q = T_and (is_ordered s) (are_ordered ss) o in
        let r = T_and (is_apart s) (are_apart ss) a in
        let x = T_and (every (λ (y : ℕ). apart (top_of s) y) (tops_of ss)) (all_apart (tops_of ss)) p in
        let f = print-length-le s q.0 r.0 (omega (arith, le_of_inside (top_of s) (bit_or (top_of s) U) (inside-union_l (top_of s) U))) in
        let g = each-length-le ss q.1 x.1 r.1 (omega (arith, le_of_inside U (bit_or (top_of s) U) (inside-union_r (top_of s) U))) in
        let c = cost_union w (top_of s) U (apart-union_of (top_of s) (tops_of ss) x.0) in
        omega (arith, length-append (print s) (after_commas (print_each ss)))

-- ---- texts

-- a taxon below ten has one figure, any other at most two
full-le : (w : ℕ) → 10 ≤ w → w ≤ 64 → full_cost w + 10 ≤ 5 * w
unfolding full_cost figures
full-le zero h k = absurd (omega arith)
full-le (suc w) h k = go (dec_le w 9) (full-le w)
  where
    go : Dec (w ≤ 9) → (10 ≤ w → w ≤ 64 → full_cost w + 10 ≤ 5 * w) → full_cost (suc w) + 10 ≤ 5 * suc w
    go (yes l) ih = let e : w ≡ 9 = omega arith in rw e (le_refl 50)
    go (no l) ih = omega (arith, ih (omega arith) (omega arith), ap length (decimal_two w (omega arith) (omega arith)))

pub text-length-le : (w : ℕ) (s : Shape) → 10 ≤ w → w ≤ 64 → T (is_ordered s) → Once (vertices_of s) → top_of s < 2 ^ w
    → length (text_bytes s) + 12 ≤ 5 * w
text-length-le w s l k o p h =
    let one = length-append (print s) (semicolon ∷ []) in
    omega (arith, print-length-le w s o (apart_of_once s p) h, cost_le w (top_of s), full-le w l k)
