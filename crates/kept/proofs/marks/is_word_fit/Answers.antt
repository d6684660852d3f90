-- `kept::marks::is_word_fit` meets its contract: a set bit that fails ends the walk, one that passes leaves the rest, and no bit is left at
-- the end. Assumes nothing.
use Rattle.std.proofs.Common.{◌≡◌, ◌-◌, ◌+◌, ◌^◌, ◌<◌, bit_and, sym, ◌∙◌, arith, rules}
use Rattle.laws.specs.Cluster.{lowest}
use Rattle.laws.proofs.Lowest.{lowest_in, lowest_dropped}
use Rattle.kept.specs.Fields.{is_mark_fit}
use Rattle.kept.proofs.Laws.Marks.{Marked, →marked, mark-lt}
use Rattle.kept.proofs.Laws.Words.{every_bit-none, every_bit_fails, every_bit-drop, mark_fit_is}
use Rattle.kept.proofs.marks.is_word_fit.Goals as goal
use Rattle.kept.proofs.marks.is_word_fit.Goals.{After-is_some_and}

-- ---- the lowest set bit
rest_word : (c : goal.After-is_some_and) → c.loop-rest.rest < 2 ^ 64
rest_word c = omega arith

bit_set : (c : goal.After-is_some_and) → Marked c.loop-rest.rest c.lowest.result
bit_set c =
    let rest = c.loop-rest.rest in
    rw c.lowest.ensures (→marked rest (lowest 64 rest) (lowest_in 64 rest (rest_word c) c.loop-rest-test.true))

-- without it
dropped : (c : goal.After-is_some_and) → let rest = c.loop-rest.rest in bit_and rest (rest - 1) ≡ rest - 2 ^ c.lowest.result
dropped c = rw c.lowest.ensures (lowest_dropped 64 c.loop-rest.rest (rest_word c) c.loop-rest-test.true)

-- what is told of it
told : (c : goal.After-is_some_and) → c.is_some_and.result ≡ is_mark_fit c.args.clusters.now c.args.cluster c.args.base c.lowest.result
told c =
    let a = c.args in
    mark_fit_is a.clusters.now (a.base + c.lowest.result) a.cluster c.get-marked.result c.is_some_and.result c.get-marked.ensures.lookup.3 (search rules)

-- ---- the exits
pub returns-then-not-is_some_and : goal.returns-then-not-is_some_and
returns-then-not-is_some_and c =
    let p = (goal.at.returns-then-not-is_some_and c).After-is_some_and in
    let a = c.args in
    let rest = c.loop-rest.rest in
    let small = mark-lt 64 rest c.lowest.result (rest_word p) (bit_set p) in
    let failed = sym (told p) ∙ c.if-not-is_some_and.true in
    sym (c.loop-rest.invariant.1
    ∙ every_bit_fails 64 (is_mark_fit a.clusters.now a.cluster a.base) rest c.lowest.result small (bit_set p) failed)

pub loop-rest-preserved : goal.loop-rest-preserved
loop-rest-preserved c =
    let p = (goal.at.loop-rest-preserved c).After-is_some_and in
    let a = c.args in
    let passed = sym (told p) ∙ c.if-not-is_some_and.false in
    rw (dropped p) (
      omega arith,
      c.loop-rest.invariant.1
          ∙ every_bit-drop 64 (is_mark_fit a.clusters.now a.cluster a.base) c.loop-rest.rest c.lowest.result (bit_set p) passed,
    )

pub returns : goal.returns
returns c =
    let a = c.args in
    sym (c.loop-rest.invariant.1 ∙ rw c.loop-rest-test.false (every_bit-none 64 (is_mark_fit a.clusters.now a.cluster a.base)))
