use Rattle.ftc_protocol.proofs.PlainFates.{plain_released, plain_filtered}
use Rattle.ftc_protocol.proofs.packets.plain_fates.Goals as goal

pub returns-clause-released : goal.returns-clause-released
returns-clause-released c = plain_released

pub returns-clause-filtered : goal.returns-clause-filtered
returns-clause-filtered c = plain_filtered
