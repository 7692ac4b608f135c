use Rattle.std.proofs.Common.{true}
use Rattle.ftc_workers.proofs.Jobs.{may_wanted}
use Rattle.ftc_workers.proofs.choosing.choose_visit.Goals as goal

pub returns-in-Some : goal.returns-in-Some
returns-in-Some c = may_wanted c.args.chain.now true c.in-Some.job c.in-Some.ensures.some
