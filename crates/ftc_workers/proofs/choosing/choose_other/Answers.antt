use Rattle.std.proofs.Common.{false}
use Rattle.ftc_workers.proofs.Jobs.{may_wanted, other_wanted}
use Rattle.ftc_workers.proofs.choosing.choose_other.Goals as goal

pub returns-else-is_enter-clause-may : goal.returns-else-is_enter-clause-may
returns-else-is_enter-clause-may c = may_wanted c.args.chain.now false c.in-Some.job c.in-Some.ensures.some

pub returns-else-is_enter-clause-other : goal.returns-else-is_enter-clause-other
returns-else-is_enter-clause-other c = other_wanted c.args.chain.now c.in-Some.job c.in-Some.ensures.some
