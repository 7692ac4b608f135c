-- no number so far is greater
use Rattle.std.proofs.Common.{◌≤◌, ◌<◌, ℕ}
use Rattle.ftc_vector.specs.Vector.{number_at}
use Rattle.ftc_replica.proofs.dropping.is_below.Given as goal

abbrev pub invariant-loop-partition : goal.invariant-loop-partition
invariant-loop-partition l = (k : ℕ) → k < l.partition → number_at l.vector k ≤ number_at l.other k
