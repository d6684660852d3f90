-- `kept::fitness::is_row_fit` meets its contract: the tests of the row that was read are those of row i of the table, and a cluster that
-- keeps the record rules has a taxon. Assumes nothing.
use Rattle.std.proofs.Common.{◌≡◌, true, length, take, ◌∙◌, rules}
use Rattle.laws.specs.Limits.{narrow}
use Rattle.laws.proofs.Tests.{true_T}
use Rattle.cluster.specs.Rule.{keeps_rules}
use Rattle.kept.specs.View.{clusters_down}
use Rattle.kept.specs.Fit.{fit_entry}
use Rattle.kept.specs.Fields.{listed_in, entry_in}
use Rattle.kept.proofs.Laws.Fit.{cluster_pos, row_in, fit_in}
use Rattle.kept.proofs.fitness.is_row_fit.Goals as goal

pub is_matched-requires-clause-at_row : goal.is_matched-requires-clause-at_row
is_matched-requires-clause-at_row c =
    row_in c.args.t.now c.args.i c.of-row.result c.requires.rising c.requires.capped c.requires.place c.of-row.ensures

pub is_matched-requires-clause-cluster_nonzero : goal.is_matched-requires-clause-cluster_nonzero
is_matched-requires-clause-cluster_nonzero c =
    let kept : keeps_rules narrow (listed_in c.of-row.result) ≡ true = search rules in
    cluster_pos narrow (listed_in c.of-row.result) (true_T kept)

pub returns-then-is_ranged : goal.returns-then-is_ranged
returns-then-is_ranged c =
    let t = c.args.t.now in
    let row = c.of-row.result in
    let first = take t.rows t.clusters in
    let told : c.is_matched.result ≡ fit_entry narrow (clusters_down first (length first)) (entry_in row) = search rules in
    told ∙ fit_in narrow t c.args.i row c.requires.rising.long c.of-row.ensures
