use Rattle.std.proofs.Common.{arith}
use Rattle.ftc_vector.proofs.Partitions.{by_partition-from}
use Rattle.ftc_vector.proofs.vector.merge.Goals as goal

pub returns : goal.returns
returns c =
    rw (← c.vector.view_is, ← c.other.view_is)
    (by_partition-from _ c.loop-partition.vector-inside.numbers 0 c.loop-partition.invariant.size
    (λ k within. c.loop-partition.invariant.below k (omega (arith, within))))
