-- Whether the machine takes a run to be done: a test of what it keeps.
use Rattle.std.specs.Prelude.{ℕ, ◌==◌, ◌&&◌, not, nat_le, Bool, true, length}
use Rattle.std.specs.List.{list_any}
use Rattle.ftc_base.specs.Sets.{has}
use Rattle.ftc_script.specs.Script.{ScriptShape}
use Rattle.ftc_machine.specs.declared.state.MachineState.{MachineState}
use Rattle.ftc_machine.specs.declared.state.message.Message.{Message}
use Rattle.ftc_machine.specs.declared.state.message.Withheld.{Withheld}
use Rattle.ftc_machine.specs.Slots.{has_such}
use Rattle.ftc_machine.specs.LegalityTests.{all_below}

abbrev pub is_done : MachineState → ScriptShape → ℕ → Bool
is_done machine script count =
    nat_le (length script.steps) machine.done && machine.entered == count
    && not (list_any (has_such (λ (message : Message). true)) machine.messages)
    && length machine.forwarder == 0 && all_below machine.ring.servers (λ link. not (has machine.gaps link))
    && not (list_any (has_such (λ (withheld : Withheld). true)) machine.buffer)
