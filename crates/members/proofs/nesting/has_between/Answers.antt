-- `members::nesting::has_between` meets its contract: the chain answers for each place. Assumes nothing.
use Rattle.std.proofs.Common.{◌&&◌, rules}
use Rattle.laws.specs.Cluster.{strict}
use Rattle.laws.proofs.Chains.{any_of}
use Rattle.members.proofs.nesting.has_between.Goals as goal

pub returns : goal.returns
returns c = any_of (λ l. strict l c.args.m && strict c.args.k l) c.args.xs.now _ (search rules) (search rules)
