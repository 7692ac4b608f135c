-- What the check of a run's files says.
use Rattle.std.specs.Prelude.{ℕ, ◌≡◌, List, [], Some}
use Rattle.ftc_journal.specs.declared.event.Event.{Event}
use Rattle.ftc_pcap.specs.declared.capture.Capture.{Capture}
use Rattle.ftc_serial.specs.Serial.{State, serial_run, serial_opening}
use Rattle.ftc_serial.specs.Trace.{trace_of}
use Rattle.ftc_protocol.specs.Setting.{Setting}
use Rattle.ftc_protocol.specs.State.{opening}
use Rattle.ftc_protocol.specs.Run.{IsRun, IsFinished, state_after}
use Rattle.ftc_machine.specs.Illegal.{IsFirstIllegal}
use Rattle.ftc_report.specs.Output.{out_bytes}
use Rattle.ftc_report.specs.Report.{report_of}
use Rattle.ftc_check.specs.declared.verdict.Checked.{Checked}
use Rattle.ftc_check.specs.declared.verdict.Checked.TheVariants.{Yes, NotRun, Unfinished, OutDiffers, ReportDiffers}
use Rattle.ftc_check.specs.Difference.{IsFirstDifference}
use Rattle.ftc_check.specs.Taps.{IsWithoutTaps}

-- the journal is a run after which some event is still legal
pub record IsUnfinished (setting : Setting) (journal : List Event) : Type 0 where
  pub run : ∥ IsRun setting journal ∥₁
  pub unfinished : IsFinished setting (state_after setting (opening setting) journal) → ⊥

-- the journal is a run after which no event is legal, and the serial run of its trace ends in that state
pub record IsWhole (setting : Setting) (journal : List Event) (end : State) : Type 0 where
  pub run : ∥ IsRun setting journal ∥₁
  pub finished : ∥ IsFinished setting (state_after setting (opening setting) journal) ∥₁
  pub serial : serial_run setting.rules (serial_opening setting.packets) (trace_of journal) ≡ Some end

-- and OUT is not the capture's header with the records of what the serial run released, from this place on
pub record IsOutWrong (setting : Setting) (capture : Capture) (out : List ℕ) (journal : List Event)
    (place : ℕ) : Type 0 where
  pub end : State
  pub whole : IsWhole setting journal end
  pub differs : IsFirstDifference out (out_bytes capture end.released) place

-- the report, without the lines of its taps, is not the report of the run, from this place on
pub record IsOtherReport (setting : Setting) (journal : List Event) (report : List ℕ) (place : ℕ) : Type 0 where
  pub front : List ℕ
  pub without_taps : IsWithoutTaps report front
  pub differs : IsFirstDifference front (report_of setting journal []) place

-- or it is
pub record IsReport (setting : Setting) (journal : List Event) (report : List ℕ) : Type 0 where
  pub front : List ℕ
  pub without_taps : IsWithoutTaps report front
  pub same : front ≡ report_of setting journal []

-- OUT is right, and the report is not
pub record IsReportWrong (setting : Setting) (capture : Capture) (out : List ℕ) (journal : List Event) (report : List ℕ)
    (place : ℕ) : Type 0 where
  pub end : State
  pub whole : IsWhole setting journal end
  pub out_is : out ≡ out_bytes capture end.released
  pub report_is : IsOtherReport setting journal report place

-- both are right
pub record IsRight (setting : Setting) (capture : Capture) (out : List ℕ) (journal : List Event)
    (report : List ℕ) : Type 0 where
  pub end : State
  pub whole : IsWhole setting journal end
  pub out_is : out ≡ out_bytes capture end.released
  pub report_is : IsReport setting journal report

-- each answer says also that no answer before it applies
abbrev pub IsVerdict : Setting → Capture → List ℕ → List Event → List ℕ → Checked → Type 0
IsVerdict setting capture out journal report (NotRun event) = IsFirstIllegal setting journal event
IsVerdict setting capture out journal report Unfinished = IsUnfinished setting journal
IsVerdict setting capture out journal report (OutDiffers place) = IsOutWrong setting capture out journal place
IsVerdict setting capture out journal report (ReportDiffers place) =
    IsReportWrong setting capture out journal report place
IsVerdict setting capture out journal report Yes = IsRight setting capture out journal report
