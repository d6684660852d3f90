-- `members::nesting::nests` meets its contract: the chain answers for each place. Assumes nothing.
use Rattle.std.proofs.Common.{rules}
use Rattle.laws.specs.Cluster.{nested}
use Rattle.laws.proofs.Chains.{every_of}
use Rattle.members.proofs.nesting.nests.Goals as goal

pub returns : goal.returns
returns c = every_of (nested c.args.a) c.args.xs.now _ (search rules) (search rules)
