-- `members::nesting::are_few` meets its contract: the chain answers for each place. Assumes nothing.
use Rattle.std.proofs.Common.{◌||◌, ◌-◌, leb, length, rules}
use Rattle.laws.specs.Cluster.{single}
use Rattle.trees.specs.Tree.{children}
use Rattle.laws.proofs.Chains.{every_of}
use Rattle.members.proofs.nesting.are_few.Goals as goal

pub returns : goal.returns
returns c = every_of (λ m. single m || leb (length (children c.args.xs.now m)) (c.args.degree - 1)) c.args.xs.now _ (search rules) (search rules)
