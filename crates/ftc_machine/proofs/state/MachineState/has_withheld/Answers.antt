use Rattle.std.proofs.Common.{◌∙◌, true}
use Rattle.ftc_machine.specs.declared.state.message.Withheld.{Withheld}
use Rattle.ftc_machine.proofs.state.MachineState.has_withheld.Goals as goal

pub returns : goal.returns
returns c = c.is_any_withheld.ensures ∙ c.live.ensures (λ (withheld : Withheld). true)
