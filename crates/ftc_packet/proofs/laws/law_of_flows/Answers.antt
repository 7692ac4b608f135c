use Rattle.ftc_packet.proofs.FlowsFound.{flows_are_found}
use Rattle.ftc_packet.proofs.laws.law_of_flows.Goals as goal

pub returns : goal.returns
returns c = flows_are_found
