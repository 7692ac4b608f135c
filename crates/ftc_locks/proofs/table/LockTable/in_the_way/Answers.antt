use Rattle.std.proofs.Common.{arith}
use Rattle.ftc_base.specs.declared.limits.TheConstants.{MOST_SLOTS}
use Rattle.ftc_locks.proofs.Holdings.{has-from, conflicts-past}
use Rattle.ftc_locks.proofs.table.LockTable.in_the_way.Goals as goal

pub returns : goal.returns
returns c =
    has-from _ MOST_SLOTS _ (λ k within. c.loop-other.invariant.below k (omega (arith, within)))
    (λ k beyond. c.loop-other.invariant.rest k (omega (arith, beyond)))
    (λ k beyond. rw (← c.self.view_is)
    (conflicts-past (record {
      partitions = c.self.inside.partitions;
      held = c.self.inside.held;
      exclusive = c.self.inside.exclusive;
      ages = c.self.inside.ages;
    }) c.args.worker c.args.partition c.args.change k
    (omega (arith, beyond, c.self.invariant.0.held_size)) (omega (arith, beyond, c.self.invariant.0.exclusive_size))))
