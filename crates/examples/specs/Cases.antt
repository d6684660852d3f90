-- The bench examples P1 to P11 (RULES 11) as one table, with three more on blanks, B1 to B3. Every number of P1 to P11 is one that the
-- rules name, but these, which follow from the list and from the text that is printed: the members of every case but P1; the weights of P3
-- and of P8, P9 and P10; the counts of P4, P5 and P11. For the house list count, weight and text at all three degree bounds are named by
-- what `besttree` prints, and P7 has the house list's answer. P6 and P7 name no degree bound, and all three are tried. A cluster stands as
-- its number: {5} is 32. That each case is right: `proofs/Theorems.antt`.
--     house_with a b       the house list, with the records a and b of {0,1} and {1,2}
--     house, of_house n    the house list, and its tree, with this count
--     house_and r          the house list and one more record
--     left_open a          the house list with {1,2} unscored, and the record a of {0,1}
--     fifteen, of_fifteen n m     all 15 clusters of four taxa at 0, and their tree, with this count and top row's length
--     cases               the table
-- Assumes nothing.
use Rattle.std.proofs.Math.Option.{some}
use Rattle.std.specs.Prelude.{List, [], ◌∷◌, ◌++◌, map, ℕ, pos, negsuc}
use Rattle.laws.specs.Row.{Row}
use Rattle.examples.specs.Case.{ToldTree, refused, drawn, Case, score, no_score, refused_from, drawn_from, rescored_from, tree}

abbrev pub house_with : Row → Row → List Row
house_with a b = score 1 (pos 0) ∷ score 2 (pos 0) ∷ score 4 (pos 0) ∷ a ∷ b ∷ score 7 (pos 1) ∷ []

abbrev pub house : List Row
house = house_with (score 3 (pos 4)) (score 6 (pos 4))

abbrev pub house_and : Row → List Row
house_and r = house ++ (r ∷ [])

-- the tree of the house list, with this count
abbrev pub of_house : ℕ → ToldTree
of_house n = tree n (pos 5) (1 ∷ 2 ∷ 4 ∷ 6 ∷ 7 ∷ []) "(0,(1,2));"

abbrev pub left_open : Row → List Row
left_open a = house_with a (no_score 6)

abbrev pub fifteen : List Row
fifteen =
    map (λ (c : ℕ). score c (pos 0)) (1 ∷ 2 ∷ 3 ∷ 4 ∷ 5 ∷ 6 ∷ 7 ∷ 8 ∷ 9 ∷ 10 ∷ 11 ∷ 12 ∷ 13 ∷ 14 ∷ 15 ∷ [])

abbrev pub of_fifteen : ℕ → ℕ → ToldTree
of_fifteen n m = record {
  count = n;
  weight = pos 0;
  row_length = some m;
  members = 1 ∷ 2 ∷ 4 ∷ 8 ∷ 12 ∷ 14 ∷ 15 ∷ [];
  text = "(0,(1,(2,3)));";
}

abbrev pub cases : List Case
cases =
    -- P1, P2, and the third line that `besttree` prints
    drawn_from house 3 (of_house 2)
    ∷ drawn_from house 4 (of_house 3)
    ∷ drawn_from house 5 (of_house 3)
    -- P3
    ∷ drawn_from (left_open (score 3 (pos 4))) 3 (tree 1 (pos 5) (1 ∷ 2 ∷ 3 ∷ 4 ∷ 7 ∷ []) "((0,1),2);")
    -- P4, P5: {0,1} at -4, weights -3 and 1
    ∷ drawn_from (left_open (score 3 (negsuc 3))) 3 (tree 1 (negsuc 2) (1 ∷ 2 ∷ 3 ∷ 4 ∷ 7 ∷ []) "((0,1),2);")
    ∷ drawn_from (left_open (score 3 (negsuc 3))) 4 (tree 2 (pos 1) (1 ∷ 2 ∷ 4 ∷ 7 ∷ []) "(0,1,2);")
    -- P6: {5} at -3, and unscored
    ∷ drawn_from (score 32 (negsuc 2) ∷ []) 3 (tree 1 (negsuc 2) (32 ∷ []) "5;")
    ∷ drawn_from (score 32 (negsuc 2) ∷ []) 4 (tree 1 (negsuc 2) (32 ∷ []) "5;")
    ∷ drawn_from (score 32 (negsuc 2) ∷ []) 5 (tree 1 (negsuc 2) (32 ∷ []) "5;")
    ∷ refused_from (no_score 32 ∷ []) 3 7
    ∷ refused_from (no_score 32 ∷ []) 4 7
    ∷ refused_from (no_score 32 ∷ []) 5 7
    -- P7: a blank {3} adds no yeast
    ∷ drawn_from (house_and (no_score 8)) 3 (of_house 2)
    ∷ drawn_from (house_and (no_score 8)) 4 (of_house 3)
    ∷ drawn_from (house_and (no_score 8)) 5 (of_house 3)
    -- B1: nor does a blank {0,1,2,3}, whose row is the last
    ∷ drawn_from (house_and (no_score 15)) 3 (of_house 2)
    -- B2: a rescoring scores it, and there is no tree, since {3} has no record. B3: one that was scored becomes a blank
    ∷ rescored_from (house_and (no_score 15)) 3 (score 15 (pos 0)) (15 ∷ []) (refused 7)
    ∷ rescored_from (house_and (score 15 (pos 0))) 3 (no_score 15) (15 ∷ []) (drawn (of_house 2))
    -- P8, P9, P10
    ∷ drawn_from fifteen 3 (of_fifteen 15 7)
    ∷ drawn_from fifteen 4 (of_fifteen 25 13)
    ∷ drawn_from fifteen 5 (of_fifteen 26 14)
    -- P11
    ∷ rescored_from house 3 (score 3 (pos 5)) (3 ∷ 7 ∷ []) (drawn (tree 2 (pos 6) (1 ∷ 2 ∷ 3 ∷ 4 ∷ 7 ∷ []) "((0,1),2);"))
    ∷ []
