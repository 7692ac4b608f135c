use Rattle.std.proofs.Common.{arith}
use Rattle.ftc_vector.proofs.Partitions.{by_partition-from}
use Rattle.ftc_vector.proofs.vector.Vector.raise.Goals as goal

pub returns : goal.returns
returns c =
    rw (← c.self.view_is) (by_partition-from _ c.loop-partition.self-inside.numbers 0 c.loop-partition.invariant.size
    (λ k within. c.loop-partition.invariant.below k (omega (arith, within))))
