use Rattle.ftc_mbox.proofs.Following.{can_follow}
use Rattle.ftc_mbox.proofs.asking.ask.Goals as goal

pub returns-in-Some-clause-rewrites : goal.returns-in-Some-clause-rewrites
returns-in-Some-clause-rewrites c = can_follow c.args.packet.now c.ask_of_flow.result c.in-Some.ensures.exact.0
