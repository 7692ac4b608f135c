use Rattle.ftc_protocol.proofs.DriveLaws.{messages_apart, withheld_apart}
use Rattle.ftc_protocol.proofs.driving.times_apart.Goals as goal

pub returns-clause-messages : goal.returns-clause-messages
returns-clause-messages c = messages_apart

pub returns-clause-withheld : goal.returns-clause-withheld
returns-clause-withheld c = withheld_apart
