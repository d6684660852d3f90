-- `kept::fields::Fields::is_matched` meets its contract: a count that isn't zero, by the row's own mark, the two words of marks and the best
-- weight. Assumes nothing.
use Rattle.std.proofs.Common.{◌≡◌, length, w64, Fits, arith, rules}
use lib.Count.{ones-le}
use Rattle.laws.proofs.Taxa.{size_pos}
use Rattle.kept.specs.View.{clusters_down}
use Rattle.kept.specs.Results.{is_matched}
use Rattle.kept.specs.Fields.{listed_in, result_in}
use Rattle.kept.proofs.Laws.Results.{matched_tests, matched_is}
use Rattle.kept.proofs.fields.Fields.is_matched.Goals as goal
use Rattle.kept.proofs.fields.Fields.is_matched.Goals.{After-is_marked}

-- a count that isn't zero
live : (c : goal.After-is_marked) → let r = c.args.self.now in let cs = c.args.clusters.now in
    is_matched (clusters_down cs (length cs)) (listed_in r) (result_in r) ≡ matched_tests cs c.args.i r
live c =
    let r = c.args.self.now in
    let low : Fits w64 r.low = search rules in
    let high : Fits w64 r.high = search rules in
    matched_is c.args.clusters.now c.args.i r low.fits high.fits c.if-self-eq0.false c.requires.at_row

pub is_light-requires : goal.is_light-requires
is_light-requires c =
    let r = c.args.self.now in
    let small : Fits w64 r.cluster = search rules in
    rw c.size.ensures (size_pos r.cluster (λ (e : r.cluster ≡ 0). omega (arith, c.requires.cluster_nonzero)), ones-le 64 r.cluster small.fits)

pub returns-then-is_word_fit-2 : goal.returns-then-is_word_fit-2
returns-then-is_word_fit-2 c = let e = live ((goal.at.returns-then-is_word_fit-2 c).After-is_marked) in rw e (search rules)

pub returns-else-is_word_fit-2 : goal.returns-else-is_word_fit-2
returns-else-is_word_fit-2 c = let e = live ((goal.at.returns-else-is_word_fit-2 c).After-is_marked) in rw e (search rules)
