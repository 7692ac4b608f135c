use Rattle.ftc_protocol.proofs.OneVisit.{made_once}
use Rattle.ftc_protocol.proofs.packets.each_visit_once.Goals as goal

pub returns : goal.returns
returns c = made_once
