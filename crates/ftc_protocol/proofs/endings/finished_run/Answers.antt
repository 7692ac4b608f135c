use Rattle.ftc_protocol.proofs.Complete.{completes}
use Rattle.ftc_protocol.proofs.endings.finished_run.Goals as goal

pub returns : goal.returns
returns c = completes
