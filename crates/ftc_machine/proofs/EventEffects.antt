-- From what an effect says of its event to what is said of the event that was handed in.
use Rattle.std.proofs.Common.{◌≡◌, ℕ, Result, sym, subst}
use Rattle.std.specs.Prelude.{OnOk}
use Rattle.ftc_base.proofs.Results.{on_ok_map}
use Rattle.ftc_journal.specs.declared.event.Event.{Event}
use Rattle.ftc_protocol.specs.Setting.{Setting}
use Rattle.ftc_protocol.specs.State.{ChainState}
use Rattle.ftc_machine.specs.declared.state.MachineState.{MachineState}
use Rattle.ftc_machine.specs.Simulation.{SimulatesEvent}

module _ (setting : Setting) (now : ℕ) (old new : MachineState) where
  abbrev pub Acts : Event → Type 0
  Acts event = (state : ChainState) → now ≡ state.events → SimulatesEvent setting state event old new

pub acts : {setting : Setting} {now : ℕ} {old new : MachineState} {event made : Event} → event ≡ made →
    Acts setting now old new made → Acts setting now old new event
acts {setting = setting} {now = now} {old = old} {new = new} is acting =
    subst (Acts setting now old new) (sym is) acting

-- the same where the effect may fail
pub acts_ok : {setting : Setting} {now : ℕ} {old new : MachineState} {event made : Event} {A E : Type 0}
    {Said : Type 0} (result : Result A E) → event ≡ made → (Said → Acts setting now old new made) →
    OnOk result Said → OnOk result (Acts setting now old new event)
acts_ok result is acting said = on_ok_map result _ _ (λ given. acts is (acting given)) said
