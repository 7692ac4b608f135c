use Rattle.std.proofs.Common.{[], arith}
use Rattle.ftc_vector.proofs.GroupLists.{by_group-from}
use Rattle.ftc_vector.proofs.group_vectors.GroupVectors.merge.Goals as goal

pub returns : goal.returns
returns c =
    rw (← c.self.view_is, ← c.other.view_is) (by_group-from _ c.loop-group.vector-items [] c.loop-group.invariant.size
    (λ k within. c.loop-group.invariant.below k (omega (arith, within))))
