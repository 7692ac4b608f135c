use Rattle.ftc_protocol.proofs.StatesOfRuns.{of_state}
use Rattle.ftc_protocol.proofs.LogsRideOnce.{riding}
use Rattle.ftc_protocol.specs.Orderly.{IsRiding}
use Rattle.ftc_protocol.proofs.states.logs_ride_once.Goals as goal

pub returns : goal.returns
returns c = of_state (λ setting state. IsRiding state) riding
