-- The marked rows of a table, a row being its place (RULES 5, and 8 of RULES 8). Laws: `proofs/Laws/Marked.antt`.
--     marked_to m n         those of the first n rows that are marked in m, the last of them first
--     members_to cs m n     their clusters, ascending
--     members_in cs rows    the clusters of such rows in an array, ascending: zero past them
--     scored_to ss m n      each of them is scored
--     total zs             numbers added up
--     weight_to ws m n      their weights added up
--     is_same a b           two weights are the same: neither is less than the other
-- Assumes nothing.
use Rattle.std.specs.Prelude.{Bool, not, ◌&&◌, List, [], ◌∷◌, map, reverse, ℕ, ℤ, pos, ◌+ℤ◌, get_or}
use Rattle.std.specs.Int.Signed.{lt_z}
use Rattle.laws.specs.Column.{column}
use Rattle.laws.specs.Lists.{keep, every}
use Rattle.laws.specs.Orders.{places}
use Rattle.laws.specs.State.{scored}
use Rattle.kept.specs.Marks.{has_mark}

abbrev pub marked_to : ℕ → ℕ → List ℕ
marked_to m n = keep (has_mark m) (places n)

abbrev pub members_to : List ℕ → ℕ → ℕ → List ℕ
members_to cs m n = reverse (map (λ (i : ℕ). get_or cs i 0) (marked_to m n))

abbrev pub members_in : List ℕ → List ℕ → List ℕ
members_in cs rows = column 0 (λ (i : ℕ). get_or cs i 0) rows

abbrev pub scored_to : List ℕ → ℕ → ℕ → Bool
scored_to ss m n = every (λ (i : ℕ). scored (get_or ss i 0)) (marked_to m n)

abbrev pub total : List ℤ → ℤ
total [] = pos 0
total (z ∷ zs) = z +ℤ total zs

abbrev pub weight_to : List ℤ → ℕ → ℕ → ℤ
weight_to ws m n = total (map (λ (i : ℕ). get_or ws i (pos 0)) (marked_to m n))

abbrev pub is_same : ℤ → ℤ → Bool
is_same a b = not (lt_z a b) && not (lt_z b a)
