-- The table is the built one after as many rescorings as were made. Assumes nothing.
use Rattle.std.proofs.Common.{◌≡◌}
use Rattle.digests.specs.Digest.{rescored_times}
use Rattle.digests.proofs.ladlepine_rescore.Given as goal

abbrev pub invariant-loop : goal.invariant-loop
invariant-loop l = l.t ≡ rescored_times l.counter l.cluster l.weight l.state l.initial.t
