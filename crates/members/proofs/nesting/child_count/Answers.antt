-- `members::nesting::child_count` meets its contract: the chain counts what passes. Assumes nothing.
use Rattle.std.proofs.Common.{rules, tests}
use Rattle.std.proofs.lemmas.Iterator.{YieldsList-from_slice}
use Rattle.std.proofs.lemmas.Iterator.Consumers.{count_from_yields_List, YieldsList-from_filter}
use Rattle.laws.proofs.Chains.{keep_is}
use Rattle.members.proofs.nesting.child_count.Goals as goal

pub returns : goal.returns
returns c =
    rw keep_is (count_from_yields_List c.filter.result _ c.count.ensures.ran
    (YieldsList-from_filter _ _ (YieldsList-from_slice c.args.xs.now cc) c.filter.ensures.closure (λ x b q k. search (rules, tests))))
