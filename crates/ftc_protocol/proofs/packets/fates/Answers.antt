use Rattle.ftc_protocol.proofs.Complete.{fates_of_run}
use Rattle.ftc_protocol.proofs.LossEvents.{lost_by}
use Rattle.ftc_protocol.proofs.packets.fates.Goals as goal

pub returns-clause-says : goal.returns-clause-says
returns-clause-says c = fates_of_run

pub returns-clause-lost : goal.returns-clause-lost
returns-clause-lost c = lost_by
