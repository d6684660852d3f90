-- `kept::fitness::is_fit` meets its contract: it makes the tests one by one, that of the clusters on those of the rows alone. Assumes nothing.
use Rattle.std.proofs.Common.{◌≡◌, true, ◌≤◌, take, length, sym, ◌∙◌, lit≤, rules, tests}
use Rattle.laws.specs.Limits.{narrow}
use Rattle.laws.proofs.Tests.{true_T}
use Rattle.kept.specs.Fit.{is_rising}
use Rattle.kept.proofs.Laws.Clusters.{is_rising→, first_rising}
use Rattle.kept.proofs.Laws.Fit.{fit_tests}
use Rattle.kept.proofs.fitness.is_fit.Goals as goal

pub has_right_rows-requires-clause-rising : goal.has_right_rows-requires-clause-rising
has_right_rows-requires-clause-rising c =
    let t = c.args.t in
    let long : t.rows ≤ length t.clusters = search rules in
    let up : is_rising (take t.rows t.clusters) (length (take t.rows t.clusters)) ≡ true = search rules in
    record { long = long; up = is_rising→ t.clusters t.rows (true_T (sym (first_rising t.clusters t.rows long) ∙ up)) }

pub returns-then-is_rising : goal.returns-then-is_rising
returns-then-is_rising c = rw (fit_tests narrow c.args.t (lit≤ tt) (search rules)) (search (rules, tests))

pub returns-else-is_rising : goal.returns-else-is_rising
returns-else-is_rising c = rw (fit_tests narrow c.args.t (lit≤ tt) (search rules)) (search (rules, tests))
