-- A finished run, by what its chain says of it.
use Rattle.std.proofs.Common.{◌≡◌, List, Some, subst}
use Rattle.std.proofs.Math.Logic.{∥∥₁_map}
use Rattle.std.specs.List.{AllByRecursion}
use Rattle.ftc_journal.specs.declared.event.Event.{Event}
use Rattle.ftc_journal.specs.declared.form.Version.TheVariants as version
use Rattle.ftc_journal.specs.Spelling.{IsEvent}
use Rattle.ftc_chain.specs.ChainRun.{ChainRun, setting_in, chain_state}
use Rattle.ftc_protocol.specs.Drive.{IsFinish, IsDrive}
use Rattle.ftc_protocol.specs.Run.{IsRun, IsFinished, state_after}
use Rattle.ftc_protocol.specs.Setting.{Setting, IsSetting}
use Rattle.ftc_protocol.specs.State.{opening}
use Rattle.ftc_serial.specs.Serial.{State, serial_run, serial_opening}
use Rattle.ftc_serial.specs.Trace.{trace_of}
use Rattle.ftc.specs.Driven.{IsFinishedRun}

-- the laws
abbrev pub DrivesAreRuns : Type 0
DrivesAreRuns = (setting : Setting) (schedule whole : List Event) → IsDrive setting schedule whole
    → IsRun setting whole × IsFinished setting (state_after setting (opening setting) whole)

abbrev pub FinishesAreFinished : Type 0
FinishesAreFinished = (setting : Setting) (journal whole : List Event) → IsFinish setting journal whole
    → IsFinished setting (state_after setting (opening setting) whole)

-- a chain that was driven is finished, and so is one that was brought to its end
pub driven_is_finished : DrivesAreRuns → (run : ChainRun) (schedule : List Event) →
    ∥ IsDrive (setting_in run) schedule run.journal ∥₁ → ∥ IsFinished (setting_in run) (chain_state run) ∥₁
driven_is_finished law run schedule chosen =
    ∥∥₁_map chosen (λ drive. (law (setting_in run) schedule run.journal drive).1)

pub ended_is_finished : FinishesAreFinished → (run : ChainRun) (journal : List Event) →
    ∥ IsFinish (setting_in run) journal run.journal ∥₁ → ∥ IsFinished (setting_in run) (chain_state run) ∥₁
ended_is_finished law run journal ended = ∥∥₁_map ended (λ finish. law (setting_in run) journal run.journal finish)

-- what a chain that is finished says of its run
pub finished_run : (setting : Setting) (run : ChainRun) (end : State) → setting_in run ≡ setting → IsSetting setting →
    ∥ IsRun (setting_in run) run.journal ∥₁ → ∥ IsFinished (setting_in run) (chain_state run) ∥₁ →
    serial_run setting.rules (serial_opening setting.packets) (trace_of run.journal) ≡ Some end →
    AllByRecursion (IsEvent version.Second) run.journal → IsFinishedRun setting run.journal end
finished_run setting run end same right legal finished ended numbers = record {
  right = right;
  whole = record {
    run = subst (λ (of : Setting). ∥ IsRun of run.journal ∥₁) same legal;
    finished = subst (λ (of : Setting). ∥ IsFinished of (state_after of (opening of) run.journal) ∥₁) same finished;
    serial = ended;
  };
  numbers = numbers;
}
