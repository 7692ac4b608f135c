use Rattle.ftc_protocol.proofs.OrderlyStates.{lost_for_good, counted}
use Rattle.ftc_protocol.proofs.TestMeanings.{lost_at}
use Rattle.ftc_protocol.proofs.packets.losses.Goals as goal

pub returns-clause-stay : goal.returns-clause-stay
returns-clause-stay c = lost_for_good

pub returns-clause-place : goal.returns-clause-place
returns-clause-place c = lost_at

pub returns-clause-counted : goal.returns-clause-counted
returns-clause-counted c = counted
