-- What the results of a fit row are, sentence by sentence (RULES 6). Laws: `proofs/Laws/Results.antt`.
--     is_length W r v      the row length is in range, and that of a one-taxon row is 0
--     is_mark W m n        a mark is 0 or 1, and 1 only beside a count of the limit
--     is_ranged W r v      the ranges of a row's results; unscored means that every result is zero
--     is_light z n         a best weight is within 1,000,000 times (2n - 1) of zero, n being the taxa
--     is_matched cs r v    count, members and best weight go together, cs being the clusters of all rows
-- Nothing more is asked: a one-taxon row may hold any count, and marks may stand on unscored rows.
-- Assumes nothing.
use Rattle.std.specs.Prelude.{Bool, not, cond, ◌&&◌, ◌||◌, List, ℕ, ◌-◌, ◌*◌, eqb, leb, ℤ}
use Rattle.laws.specs.Cluster.{size, single}
use Rattle.laws.specs.Limits.{Width, weight_max, is_within}
use Rattle.laws.specs.Row.{Row, is_scored}
use Rattle.trees.specs.Result.{Result}
use Rattle.kept.specs.Blank.{is_nothing, is_blank}
use Rattle.kept.specs.Marks.{is_marked_in, are_inside}

-- ---- ranges
abbrev pub is_length : Width → Row → Result → Bool
is_length W r v = leb v.length W.length_max && (not (single r.cluster) || eqb v.length 0)

abbrev pub is_mark : Width → ℕ → ℕ → Bool
is_mark W m n = eqb m 0 || (eqb m 1 && eqb n W.count_max)

abbrev pub is_ranged : Width → Row → Result → Bool
is_ranged W r v =
    is_length W r v && (leb v.count W.count_max && (is_mark W v.mark v.count && (is_scored r || is_blank v)))

-- ---- what a count says
abbrev pub is_light : ℤ → ℕ → Bool
is_light z n = is_within (weight_max * (2 * n - 1)) z

-- a count of zero: no member, mark or best weight; any other: the row is its own member, no member lies outside it, and the best weight is
-- one that a tree on so many taxa can have
abbrev pub is_matched : List ℕ → Row → Result → Bool
is_matched cs r v =
    cond (eqb v.count 0)
    (is_nothing v)
    (is_marked_in cs v.members r.cluster
    && (are_inside cs v.members r.cluster
    && is_light v.best (size r.cluster)))
