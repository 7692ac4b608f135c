use Rattle.ftc_protocol.proofs.MeasureFalls.{falls_on}
use Rattle.ftc_protocol.proofs.endings.every_event_goes_on.Goals as goal

pub returns : goal.returns
returns c = falls_on
