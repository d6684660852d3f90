-- What a tree is (RULES 3). A set of clusters is a list of them; nothing here speaks of tuples.
--     children xs m       the largest members strictly inside m, by inclusion
--     is_tree w d C xs     the set xs is a tree on C, for w taxa and the degree bound d
--     trees_on w d L C     the trees on C among the sets of the clusters L
-- Assumes nothing.
use Rattle.std.specs.Prelude.{Bool, not, ◌&&◌, ◌||◌, List, ℕ, ◌-◌, leb, length}
use Rattle.laws.specs.Cluster.{inside, strict, nested, single, taxa}
use Rattle.laws.specs.Lists.{keep, every, any, elem, sublists}

abbrev pub children : List ℕ → ℕ → List ℕ
children xs m = keep (λ (k : ℕ). strict k m && not (any (λ (l : ℕ). strict l m && strict k l) xs)) xs

-- all inside C; C in it; each single taxon of C in it; any two nested or apart; at most d - 1 children for a member of two or more taxa
unfoldable pub is_tree : ℕ → ℕ → ℕ → List ℕ → Bool
is_tree w d C xs =
    every (λ (m : ℕ). inside m C) xs
    && elem C xs
    && every (λ (u : ℕ). not (inside u C) || elem u xs) (taxa w)
    && every (λ (a : ℕ). every (λ (b : ℕ). nested a b) xs) xs
    && every (λ (m : ℕ). single m || leb (length (children xs m)) (d - 1)) xs

unfoldable pub trees_on : ℕ → ℕ → List ℕ → ℕ → List (List ℕ)
unfolding is_tree
trees_on w d L C = keep (is_tree w d C) (sublists L)
