-- The whole trace of a run, with the visits that have fallen.
use Rattle.std.specs.Prelude.{ℕ, ◌≡◌, ◌<◌, List, Some, Contains}
use Rattle.ftc_journal.specs.declared.event.Event.{Event}
use Rattle.ftc_journal.specs.declared.event.Event.TheVariants as event
use Rattle.ftc_serial.specs.declared.step.Step.TheVariants.{Visit}
use Rattle.ftc_serial.specs.Serial.{State, serial_run, serial_opening}
use Rattle.ftc_serial.specs.Trace.{trace_of}
use Rattle.ftc_protocol.specs.Setting.{Setting}

-- the serial run of a journal's trace exists
pub record HasSerialRun (setting : Setting) (journal : List Event) : Type 0 where
  pub end : State
  pub exists : serial_run setting.rules (serial_opening setting.packets) (trace_of journal) ≡ Some end

-- each released packet has visited all middleboxes, so many, and none of its visits was undone
abbrev pub ReleasedVisited : ℕ → List Event → Type 0
ReleasedVisited servers journal =
    (packet server : ℕ) → Contains journal (event.Release packet) → server < servers →
    Contains (trace_of journal) (Visit server packet)
