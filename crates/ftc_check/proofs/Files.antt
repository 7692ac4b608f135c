-- A run, and the serial run of its trace.
use Rattle.std.proofs.Common.{◌≡◌, ◌∙◌, ap, sym, subst, ℕ, List, Some}
use Rattle.std.specs.Prelude.{IsSome}
use Rattle.ftc_journal.specs.declared.event.Event.{Event}
use Rattle.ftc_serial.specs.Serial.{State, serial_run, serial_opening}
use Rattle.ftc_serial.specs.Trace.{trace_of}
use Rattle.ftc_serial.specs.declared.step.Step.{Step}
use Rattle.ftc_mbox.specs.Chain.{Chain}
use Rattle.ftc_check.specs.Verdict.{IsWhole}
use Rattle.ftc_protocol.specs.Setting.{Setting, IsSetting}
use Rattle.ftc_protocol.specs.Run.{IsRun, IsFinished}
use Rattle.ftc_machine.specs.RunSoFar.{RunSoFar, setting_in, machine_state}
use Rattle.ftc_protocol.specs.Whole.{HasSerialRun}
use Rattle.ftc_report.proofs.Ended.{has_end}

-- the trace of a run has a serial run for a chain and packets that are those of the run
pub has_end_there : (played : RunSoFar) (chain : Chain) (packets : List (List ℕ)) (events : List Event)
    (steps : List Step) → ((setting : Setting) → IsSetting setting → (journal : List Event) → IsRun setting journal →
    HasSerialRun setting journal) → ∥ IsSetting (setting_in played) ∥₁ → ∥ IsRun (setting_in played) played.journal ∥₁
    → played.chain ≡ chain → played.packets ≡ packets → events ≡ played.journal → steps ≡ trace_of events →
    IsSome (serial_run chain.rules (serial_opening packets) steps)
has_end_there played chain packets events steps law setting run chain_is packets_are events_are steps_are =
    subst (λ (s : List Step). IsSome (serial_run chain.rules (serial_opening packets) s))
    (sym (steps_are ∙ ap trace_of events_are))
    (subst (λ (p : List (List ℕ)). IsSome
    (serial_run chain.rules (serial_opening p) (trace_of played.journal))) packets_are
    (subst (λ (k : Chain). IsSome
    (serial_run k.rules (serial_opening played.packets) (trace_of played.journal))) chain_is
    (has_end (setting_in played) played.journal law setting run)))

pub whole : (played : RunSoFar) (chain : Chain) (packets : List (List ℕ)) (events : List Event) (steps : List Step)
    (end : State) → ∥ IsRun (setting_in played) played.journal ∥₁ →
    ∥ IsFinished (setting_in played) (machine_state played) ∥₁
    → played.chain ≡ chain → played.packets ≡ packets → events ≡ played.journal → steps ≡ trace_of events →
    serial_run chain.rules (serial_opening packets) steps ≡ Some end →
    IsWhole (setting_in played) played.journal end
whole played chain packets events steps end run finished chain_is packets_are events_are steps_are ends = record {
  run = run;
  finished = finished;
  serial = subst (λ (k : Chain). serial_run k.rules (serial_opening played.packets) (trace_of played.journal)
      ≡ Some end) (sym chain_is)
      (subst (λ (p : List (List ℕ)). serial_run chain.rules (serial_opening p) (trace_of played.journal)
      ≡ Some end) (sym packets_are)
      (subst (λ (s : List Step). serial_run chain.rules (serial_opening packets) s
      ≡ Some end) (steps_are ∙ ap trace_of events_are) ends));
}
