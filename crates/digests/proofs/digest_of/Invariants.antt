-- `sum` is the digest of the rows passed. Assumes nothing.
use Rattle.std.proofs.Common.{◌≡◌}
use Rattle.digests.specs.Digest.{results_of, digest_to}
use Rattle.digests.proofs.digest_of.Given as goal

abbrev pub invariant-loop-row : goal.invariant-loop-row
invariant-loop-row l = l.sum ≡ digest_to (results_of l.t) l.row
