-- A run so far: what it was given, and its events.
use Rattle.std.specs.Prelude.{ℕ, List}
use Rattle.ftc_journal.specs.declared.event.Event.{Event}
use Rattle.ftc_mbox.specs.Chain.{Chain}
use Rattle.ftc_script.specs.Script.{ScriptShape}
use Rattle.ftc_machine.specs.declared.state.MachineState.{MachineState}
use Rattle.ftc_protocol.specs.Setting.{Setting, setting_of, IsSetting}
use Rattle.ftc_protocol.specs.State.{ChainState, opening}
use Rattle.ftc_protocol.specs.Run.{IsRun, state_after}
use Rattle.ftc_machine.specs.Lawful.{AreLawful}
use Rattle.ftc_machine.specs.Represents.{Represents}

pub record RunSoFar : Type 0 where
  pub chain : Chain
  pub packets : List (List ℕ)
  pub script : ScriptShape
  pub journal : List Event

abbrev pub setting_in : RunSoFar → Setting
setting_in played = setting_of played.chain played.packets played.script

-- the state to which the events lead
abbrev pub machine_state : RunSoFar → ChainState
machine_state played = state_after (setting_in played) (opening (setting_in played)) played.journal

-- the journal is a run of a setting, of whose runs the laws hold, and what is kept stands for its state
pub record IsRunSoFar (setting : Setting) (journal : List Event) (kept : MachineState) : Type 0 where
  pub right : IsSetting setting
  pub run : IsRun setting journal
  pub laws : AreLawful setting
  pub kept_for : Represents setting (state_after setting (opening setting) journal) kept
