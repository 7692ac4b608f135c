-- the partitions so far have reached what the log needs
use Rattle.std.proofs.Common.{◌≡◌, ◌<◌, ℕ, true}
use Rattle.ftc_base.specs.Sets.{has}
use Rattle.ftc_vector.specs.Vector.{number_at, mark_at, need_at}
use Rattle.ftc_replica.specs.Kept.{reaches}
use Rattle.ftc_replica.proofs.coverage.covers_log.Given as goal

abbrev pub invariant-loop-partition : goal.invariant-loop-partition
invariant-loop-partition l =
    (k : ℕ) → k < l.partition → reaches (number_at l.vector k) (need_at (mark_at l.log.before k) (has l.log.changed k))
    ≡ true
