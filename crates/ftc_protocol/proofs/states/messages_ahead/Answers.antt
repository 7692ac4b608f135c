use Rattle.ftc_protocol.proofs.StatesOfRuns.{of_state}
use Rattle.ftc_protocol.proofs.NoOwnLogs.{ahead}
use Rattle.ftc_protocol.specs.Orderly.{AreAhead}
use Rattle.ftc_protocol.proofs.states.messages_ahead.Goals as goal

pub returns : goal.returns
returns c = of_state AreAhead ahead
