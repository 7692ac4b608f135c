-- the marks of the partitions so far are not reached
use Rattle.std.proofs.Common.{◌≡◌, ◌<◌, ℕ, Some}
use Rattle.ftc_vector.specs.Vector.{mark_at, number_at}
use Rattle.ftc_edge.proofs.stretch.is_one_reached.Given as goal

abbrev pub invariant-loop-partition : goal.invariant-loop-partition
invariant-loop-partition l =
    (k number : ℕ) → k < l.partition → mark_at l.marks k ≡ Some number → number_at l.vector k < number
