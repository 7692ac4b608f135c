use Rattle.std.proofs.Common.{arith}
use Rattle.ftc_base.specs.declared.limits.TheConstants.{MOST_SLOTS}
use Rattle.ftc_locks.proofs.Holdings.{has-past, has-from}
use Rattle.ftc_locks.proofs.table.LockTable.holders.Goals as goal

pub returns : goal.returns
returns c =
    rw (← c.self.view_is) (has-from _ MOST_SLOTS _
    (λ k within. c.loop-worker.invariant.below k (omega (arith, within)))
    (λ k beyond. c.loop-worker.invariant.rest k (omega (arith, beyond)))
    (λ k beyond. has-past _ k _ (omega (arith, beyond, c.self.invariant.0.held_size))))
