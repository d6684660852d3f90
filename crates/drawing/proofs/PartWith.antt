-- The child with a taxon, as the code looks for it: the largest of the members that pass a test.
--     largest_found     the largest member, or 0 where there is none, is `largest`
--     child_found       of the parts of C with taxon t, it is the child
-- Assumes nothing.
use Rattle.std.proofs.Common.{◌≡◌, ◌&&◌, List, [], ◌∷◌, Option, None, Some, MatchOption, ℕ, ◌*◌, ◌%◌, ◌^◌, ◌≤◌, ◌<◌, length, refl, sym, ap, ◌∙◌, lit<, arith}
use Rattle.std.specs.List.{filter, All, Contains}
use Rattle.std.specs.Option.{unwrap_or}
use Rattle.std.proofs.lemmas.List.Recursion.{max_bounds, max_least}
use native.Mathlib.Nat.{one-mul}
use lib.Pow.{shl_exact}
use Rattle.laws.specs.Cluster.{inside, strict}
use Rattle.laws.specs.Lists.{keep}
use Rattle.laws.proofs.Chains.{keep_is}
use Rattle.trees.specs.Heaviest.{largest}
use Rattle.shapes.specs.Parts.{child_with}

largest_found : (r : Option ℕ) (l : List ℕ) → MatchOption r (length l ≡ 0) (λ m. Contains l m × All (λ x. x ≤ m) l) → unwrap_or r 0 ≡ largest l
largest_found None [] h = refl
largest_found None (x ∷ l) h = absurd (omega arith)
largest_found (Some m) l h =
    let above = max_bounds largest (λ x. x) refl (λ _ _. refl) l h.0.0 m h.0.1 in
    let below = max_least largest (λ x. x) refl (λ _ _. refl) l m m (λ i k. h.1 i m k) in
    omega (arith, h.0.2, above, below)

-- the code's own bit is the cluster of the taxon
pub child_found : (xs : List ℕ) (C t : ℕ) (r : Option ℕ) → t < 64
    → let parts = filter (λ k. strict k C && inside ((1 * 2 ^ t) % 2 ^ 64) k) xs in
    MatchOption r (length parts ≡ 0) (λ m. Contains parts m × All (λ x. x ≤ m) parts)
    → unwrap_or r 0 ≡ child_with xs C t
child_found xs C t r h found =
    let bit : (1 * 2 ^ t) % 2 ^ 64 ≡ 2 ^ t = shl_exact {a = 1} 1 t 64 (lit< tt) (omega arith) ∙ one-mul (2 ^ t) in
    let has = λ (b k : ℕ). strict k C && inside b k in
    largest_found r (filter (has ((1 * 2 ^ t) % 2 ^ 64)) xs) found
    ∙ ap largest (sym (keep_is (has ((1 * 2 ^ t) % 2 ^ 64)) xs))
    ∙ ap (λ (b : ℕ). largest (keep (has b) xs)) bit
