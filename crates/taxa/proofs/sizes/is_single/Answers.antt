-- `taxa::sizes::is_single` meets its contract: the size is compared with 1. Assumes nothing.
use Rattle.std.proofs.Common.{ℕ, ap, nat_eq}
use Rattle.laws.specs.Cluster.{single}
use Rattle.taxa.proofs.sizes.is_single.Goals as goal

pub returns : goal.returns
unfolding single
returns c = ap (λ (n : ℕ). nat_eq n 1) c.size.ensures
