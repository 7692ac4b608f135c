use Rattle.std.proofs.Common.{◌∙◌, true}
use Rattle.ftc_machine.specs.declared.state.message.Message.{Message}
use Rattle.ftc_machine.proofs.state.MachineState.has_message.Goals as goal

pub returns : goal.returns
returns c = c.is_any_message.ensures ∙ c.live.ensures (λ (message : Message). true)
