-- The rows passed at the end are all of them. Assumes nothing.
use Rattle.std.proofs.Common.{◌≡◌, arith}
use Rattle.laws.specs.Limits.{row_cap}
use Rattle.digests.proofs.digest_of.Goals as goal

pub returns : goal.returns
returns c = let end : c.loop-row.row ≡ row_cap = omega arith in cc
