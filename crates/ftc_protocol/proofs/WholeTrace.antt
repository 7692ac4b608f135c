-- The whole trace of a run is a serial run.
use Rattle.std.proofs.Common.{◌≡◌, List, Some, subst}
use Rattle.ftc_journal.specs.declared.event.Event.{Event}
use Rattle.ftc_serial.specs.declared.step.Step.{Step}
use Rattle.ftc_serial.specs.Serial.{serial_run, serial_opening}
use Rattle.ftc_protocol.specs.Setting.{Setting, IsSetting}
use Rattle.ftc_protocol.specs.State.{ChainState, opening}
use Rattle.ftc_protocol.specs.Run.{IsRun, state_after}
use Rattle.ftc_protocol.specs.Whole.{HasSerialRun}
use Rattle.ftc_protocol.proofs.Places.{serial_of}
use Rattle.ftc_protocol.proofs.AcceptedSettings.{is_good, opens_fit}
use Rattle.ftc_protocol.proofs.Induction.{always}
use Rattle.ftc_protocol.proofs.Soundness.{serial_runs}
use Rattle.ftc_protocol.proofs.JournalTrace.{trace_is}

pub whole_serial : (c : Setting) → IsSetting c → (journal : List Event) → IsRun c journal → HasSerialRun c journal
whole_serial c is journal run =
    let s : ChainState = state_after c (opening c) journal in
    let inv = always c (is_good c is) (opens_fit c is) journal run in
    record {
      end = serial_of c s.trace;
      exists = subst (λ (steps : List Step). serial_run c.rules (serial_opening c.packets) steps
          ≡ Some (serial_of c s.trace)) (trace_is c is journal run)
          (serial_runs c s.trace inv.world.serial);
    }
