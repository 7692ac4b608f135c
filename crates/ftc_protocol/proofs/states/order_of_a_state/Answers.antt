use Rattle.ftc_protocol.proofs.StatesOfRuns.{of_state}
use Rattle.ftc_protocol.proofs.OrderlyStates.{orderly}
use Rattle.ftc_protocol.specs.Orderly.{IsOrderly}
use Rattle.ftc_protocol.proofs.states.order_of_a_state.Goals as goal

pub returns : goal.returns
returns c = of_state IsOrderly orderly
