-- `members::nesting::are_nested` meets its contract: the chain answers for each place. Assumes nothing.
use Rattle.std.proofs.Common.{◌&&◌, rules}
use Rattle.laws.specs.Cluster.{inside, nested}
use Rattle.laws.specs.Lists.{every}
use Rattle.laws.proofs.Chains.{every_of}
use Rattle.members.proofs.nesting.are_nested.Goals as goal

pub returns : goal.returns
returns c = every_of (λ a. inside a c.args.c && every (nested a) c.args.xs.now) c.args.xs.now _ (search rules) (search rules)
