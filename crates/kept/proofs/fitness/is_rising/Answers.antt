-- `kept::fitness::is_rising` meets its contract: each cluster and the next are told apart by `<`. Assumes nothing.
use Rattle.std.proofs.Common.{ltb, rules, tests}
use Rattle.std.proofs.lemmas.List.Sorted.{answers_always}
use Rattle.kept.proofs.Laws.Clusters.{sorted_is}
use Rattle.kept.proofs.fitness.is_rising.Goals as goal

pub returns : goal.returns
returns c =
    sorted_is c.args.clusters.now _ (c.is_sorted_by.ensures.cases ltb (answers_always _ _ _ (λ f a r g h. search (rules, tests))))
