-- the log is ahead at none of the partitions so far
use Rattle.std.proofs.Common.{◌≡◌, ◌<◌, ℕ, false}
use Rattle.ftc_server.specs.Waiting.{is_ahead_at}
use Rattle.ftc_server.proofs.waiting.ahead_of.Given as goal

abbrev pub invariant-loop-partition : goal.invariant-loop-partition
invariant-loop-partition l = (k : ℕ) → k < l.partition → is_ahead_at l.replica.vector l.log k ≡ false
