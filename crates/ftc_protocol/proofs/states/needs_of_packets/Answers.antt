use Rattle.ftc_protocol.proofs.StatesOfRuns.{of_state}
use Rattle.ftc_protocol.proofs.PacketNeeds.{needing}
use Rattle.ftc_protocol.specs.Orderly.{IsNeeding}
use Rattle.ftc_protocol.proofs.states.needs_of_packets.Goals as goal

pub returns : goal.returns
returns c = of_state (λ setting state. IsNeeding state) needing
