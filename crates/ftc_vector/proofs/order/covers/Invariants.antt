-- the needs of the partitions so far are reached
use Rattle.std.proofs.Common.{◌≡◌, ◌<◌, ◌≤◌, ℕ, Some}
use Rattle.ftc_vector.specs.Vector.{mark_at, number_at}
use Rattle.ftc_vector.proofs.order.covers.Given as goal

abbrev pub invariant-loop-partition : goal.invariant-loop-partition
invariant-loop-partition l = (k least : ℕ) → k < l.partition → mark_at l.need k ≡ Some least →
    least ≤ number_at l.vector k
