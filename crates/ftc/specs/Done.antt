-- What a run leaves: files that a check says Yes of, or some fronts of them.
use Rattle.std.specs.Prelude.{◌≡◌, ◌⊎◌, ℕ, List, [], ◌∷◌, ◌++◌, map, Some}
use Rattle.ftc_base.specs.declared.released.Released.{Released}
use Rattle.ftc_outside.specs.Desk.{Files, SameFiles}
use Rattle.ftc_outside.specs.Tap.{Face}
use Rattle.ftc_pcap.specs.declared.capture.Capture.{Capture}
use Rattle.ftc_journal.specs.declared.event.Event.{Event}
use Rattle.ftc_journal.specs.Text.{spelling}
use Rattle.ftc_mbox.specs.Chain.{Chain}
use Rattle.ftc_script.specs.Script.{ScriptShape}
use Rattle.ftc_serial.specs.Packets.{bytes_of_packets}
use Rattle.ftc_protocol.specs.Setting.{setting_of}
use Rattle.ftc_protocol.specs.Drive.{IsDrive}
use Rattle.ftc_protocol.specs.Moment.{released_in}
use Rattle.ftc_report.specs.Report.{report_of}
use Rattle.ftc_stream.specs.Taps.{AreLeft}
use Rattle.ftc.specs.declared.status.Status.{Status}
use Rattle.ftc_words.specs.Command.{Named, Mode, alone}
use Rattle.ftc.specs.Output.{MayHold, SameElsewhere, written_by}
use Rattle.ftc.specs.Refused.{IsRunRefused}
use Rattle.ftc.specs.Ending.{EndsAs}
use Rattle.ftc.specs.Texts.{HasSchedule}
use Rattle.ftc.specs.Checking.{IsRightRun, state_after_journal}

-- the journal is that of the run which one thread drives by the schedule
abbrev pub IsDriven : Chain → Capture → ScriptShape → List Event → List Event → Type 0
IsDriven chain capture script schedule journal =
    ∥ IsDrive (setting_of chain (bytes_of_packets capture.packets) script) schedule journal ∥₁

-- workers make any run, by how they come to their turns
abbrev pub IsAny : List Event → Type 0
IsAny journal = Unit {0}

-- Which of the finished runs a run leaves.
abbrev pub IsChosen : Mode → Chain → Capture → ScriptShape → List Event → List Event → Type 0
IsChosen (alone name move) chain capture script schedule journal = IsDriven chain capture script schedule journal
IsChosen other chain capture script schedule journal = IsAny journal

-- the report of a journal, with these lines of taps
abbrev pub report_bytes : Chain → Capture → ScriptShape → List Event → List (List ℕ) → List ℕ
report_bytes chain capture script journal lines =
    report_of (setting_of chain (bytes_of_packets capture.packets) script) journal lines

-- What a run leaves that is done, where its taps have these lines: the files of one run, as a check says of them,
-- which is the chosen one. The journal's text is the printed one.
pub record IsDone (names : Named) (mode : Mode) (lines : List (List ℕ)) (old new : Files) : Type 0 where
  pub right : IsRightRun names new
  pub schedule : List Event
  pub schedule_right : HasSchedule mode old schedule
  pub chosen : IsChosen mode right.judged.chain right.judged.capture right.judged.script schedule right.judged.journal
  pub journal_file : new names.journal ≡ Some (spelling right.judged.journal)
  pub report_file : new names.report
      ≡ Some (report_bytes right.judged.chain right.judged.capture right.judged.script right.judged.journal lines)
  pub others : SameElsewhere (written_by names) old new

-- the line of each tap
abbrev pub lines_of : List Face → List (List ℕ)
lines_of taps = map (λ tap. tap.line) taps

-- Each tap that is gone is none that stays for good, and each other was told these records, in their order.
abbrev pub AreToldAll : List Face → List Face → List Released → Type 0
AreToldAll taps left records = AreLeft records taps left

-- The same, where others may have been told before these.
abbrev pub AreToldAtLast : List Face → List Face → List Released → Type 0
AreToldAtLast taps left records = (before : List Released) × AreLeft (before ++ records) taps left

-- What the taps were told of a run's released packets; with workers OUT may have been made again.
abbrev pub WereTold : Mode → List Face → List Face → List Released → Type 0
WereTold (alone name move) taps left records = AreToldAll taps left records
WereTold other taps left records = AreToldAtLast taps left records

-- It is done, its report has the lines of the taps that are left, and these were told.
pub record IsDoneBeside (names : Named) (mode : Mode) (taps left : List Face) (old new : Files) : Type 0 where
  pub done : IsDone names mode (lines_of left) old new
  pub told : ∥ WereTold mode taps left
      (released_in (state_after_journal done.right.judged.chain done.right.judged.capture
      done.right.judged.script done.right.judged.journal).trace) ∥₁

-- The file is as it was, or has some front of what it would have.
abbrev pub IsFrontOf : List ℕ → Files → Files → Files → Type 0
IsFrontOf name old new whole = (bytes : List ℕ) × (whole name ≡ Some bytes) × MayHold (old name) (new name) bytes

-- What a run leaves that was cut short in its writing: fronts of what a run that is done would have left. The journal
-- was begun only behind all of OUT, and the report only behind both and with the lines of the taps that are left.
pub record IsCutShort (names : Named) (mode : Mode) (left : List Face) (old new : Files) : Type 0 where
  pub whole : Files
  pub lines : List (List ℕ)
  pub done : IsDone names mode lines old whole
  pub out_file : IsFrontOf names.out old new whole
  pub journal_file : IsFrontOf names.journal old new whole
  pub report_file : IsFrontOf names.report old new whole
  pub journal_order : (new names.journal ≡ old names.journal) ⊎ (new names.out ≡ whole names.out)
  pub report_order : (new names.report ≡ old names.report)
      ⊎ ((new names.out ≡ whole names.out) × (new names.journal ≡ whole names.journal))
  pub of_taps : (new names.report ≡ old names.report) ⊎ (lines ≡ lines_of left)
  pub others : SameElsewhere (written_by names) old new

-- With workers OUT grows while the run goes on: what it holds where the run fails before the journal is begun, the
-- writer's calls say. No other file has changed then.
abbrev pub IsOutOpen : Named → Mode → Files → Files → Type 0
IsOutOpen names (alone name move) old new = ⊥
IsOutOpen names other old new = SameElsewhere (names.out ∷ []) old new

-- What a run leaves that failed in its writing.
abbrev pub IsCut : Named → Mode → List Face → Files → Files → Type 0
IsCut names mode left old new = IsOutOpen names mode old new ⊎ IsCutShort names mode left old new

-- How a run with these names ends, which had these taps and leaves those.
abbrev pub Ends : Type 0 → Named → Mode → List Face → List Face → Files → Files → Status → Type 0
Ends sound names mode taps left old new =
    EndsAs sound (IsDoneBeside names mode taps left old new) (IsRunRefused sound names mode old) (SameFiles old new)
    (IsCut names mode left old new)
