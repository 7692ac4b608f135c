use Rattle.ftc_protocol.proofs.OrderlyStates.{whole_released, whole_given, whole_filtered}
use Rattle.ftc_protocol.proofs.packets.what_a_run_released.Goals as goal

pub returns-clause-records : goal.returns-clause-records
returns-clause-records c = whole_released

pub returns-clause-released : goal.returns-clause-released
returns-clause-released c = whole_given

pub returns-clause-filtered : goal.returns-clause-filtered
returns-clause-filtered c = whole_filtered
