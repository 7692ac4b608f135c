use Rattle.std.proofs.Common.{◌∙◌}
use Rattle.ftc_machine.specs.declared.state.message.Message.{Message}
use Rattle.ftc_machine.specs.LegalityTests.{is_begun}
use Rattle.ftc_machine.proofs.state.MachineState.has_begun.Goals as goal

pub returns : goal.returns
returns c = c.is_any_begun.ensures ∙ c.live.ensures (λ (message : Message). is_begun message.place)
