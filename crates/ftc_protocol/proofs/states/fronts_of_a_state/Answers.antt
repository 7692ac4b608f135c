use Rattle.ftc_protocol.proofs.StatesOfRuns.{of_state}
use Rattle.ftc_protocol.proofs.Fronts.{fronts}
use Rattle.ftc_protocol.specs.Front.{AreFronts}
use Rattle.ftc_protocol.proofs.states.fronts_of_a_state.Goals as goal

pub returns : goal.returns
returns c = of_state AreFronts fronts
