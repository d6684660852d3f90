-- The weight of a tree, the tie rule, and the first heaviest of several (RULES 4).
--     weight_in rs p         the sum of the weights of the rows whose cluster passes the test p
--     weight_of rs xs        the sum of the weights of the rows whose cluster is in xs, each once
--     in_one xs ys           the clusters that are in exactly one of the two
--     largest cs            the largest of some clusters, read as numbers; 0 where there is none
--     tie_first xs ys        of two sets of equal weight, xs comes first: it has the largest cluster that is in exactly one of them
--     comes_first rs xs ys   xs is heavier, or as heavy and first by the tie rule
--     first_of rs xs found   xs, or what was found among others, if that comes before xs
--     first_heaviest rs xss  the one of xss that comes before every other
-- Assumes nothing.
use Rattle.std.specs.Prelude.{Bool, not, cond, ◌&&◌, ◌||◌, List, [], ◌∷◌, ◌++◌, ℕ, max, ℤ, pos, ◌+ℤ◌}
use Rattle.std.proofs.Math.Option.{Option, none, some}
use Rattle.std.specs.Int.Signed.{lt_z}
use Rattle.laws.specs.Lists.{keep, elem}
use Rattle.laws.specs.Row.{Row}

-- the weights of the rows whose cluster passes a test
abbrev pub weight_in : List Row → (ℕ → Bool) → ℤ
weight_in [] p = pos 0
weight_in (r ∷ rs) p = cond (p r.cluster) (r.weight +ℤ weight_in rs p) (weight_in rs p)

abbrev pub weight_of : List Row → List ℕ → ℤ
weight_of rs xs = weight_in rs (λ (c : ℕ). elem c xs)

abbrev pub in_one : List ℕ → List ℕ → List ℕ
in_one xs ys = keep (λ (c : ℕ). not (elem c ys)) xs ++ keep (λ (c : ℕ). not (elem c xs)) ys

abbrev pub largest : List ℕ → ℕ
largest [] = 0
largest (c ∷ cs) = max c (largest cs)

abbrev pub tie_first : List ℕ → List ℕ → Bool
tie_first xs ys = elem (largest (in_one xs ys)) xs

abbrev pub comes_first : List Row → List ℕ → List ℕ → Bool
comes_first rs xs ys =
    lt_z (weight_of rs ys) (weight_of rs xs)
    || (not (lt_z (weight_of rs xs) (weight_of rs ys)) && tie_first xs ys)

abbrev pub first_of : List Row → List ℕ → Option (List ℕ) → Option (List ℕ)
first_of rs xs none = some xs
first_of rs xs (some ys) = some (cond (comes_first rs ys xs) ys xs)

abbrev pub first_heaviest : List Row → List (List ℕ) → Option (List ℕ)
first_heaviest rs [] = none
first_heaviest rs (xs ∷ xss) = first_of rs xs (first_heaviest rs xss)
