-- A run that is finished, and what it wrote.
use Rattle.std.specs.Prelude.{List}
use Rattle.std.specs.List.{AllByRecursion}
use Rattle.ftc_base.specs.declared.released.Released.{Released}
use Rattle.ftc_outside.specs.Desk.{Files}
use Rattle.ftc_outside.specs.Tap.{Face, HasNoFeed}
use Rattle.ftc_pcap.specs.declared.capture.Capture.{Capture}
use Rattle.ftc_check.specs.Verdict.{IsWhole}
use Rattle.ftc_journal.specs.declared.event.Event.{Event}
use Rattle.ftc_journal.specs.declared.form.Version.TheVariants as version
use Rattle.ftc_journal.specs.Spelling.{IsEvent}
use Rattle.ftc_journal.specs.Text.{spelling}
use Rattle.ftc_mbox.specs.Chain.{Chain}
use Rattle.ftc_script.specs.Script.{ScriptShape}
use Rattle.ftc_serial.specs.Packets.{bytes_of_packets}
use Rattle.ftc_serial.specs.Serial.{State}
use Rattle.ftc_protocol.specs.Setting.{Setting, IsSetting, setting_of}
use Rattle.ftc_report.specs.Output.{out_bytes}
use Rattle.ftc_report.specs.Report.{report_of}
use Rattle.ftc_words.specs.Command.{Named}
use Rattle.ftc.specs.Done.{lines_of}
use Rattle.ftc.specs.Writing.{AreWritten, AreCutBeside}

-- The journal is a finished run whose serial run ends so; its numbers are those of a text.
pub record IsFinishedRun (setting : Setting) (journal : List Event) (end : State) : Type 0 where
  pub right : IsSetting setting
  pub whole : IsWhole setting journal end
  pub numbers : AllByRecursion (IsEvent version.Second) journal

-- of one of those runs that may be
module _ (names : Named) (chain : Chain) (capture : Capture) (script : ScriptShape) (MayBe : List Event → Type 0) where
  abbrev setting : Setting
  setting = setting_of chain (bytes_of_packets capture.packets) script

  -- The files of a finished run of these texts were written, and taps were told of it.
  pub record HasWritten (Told : List Released → Type 0) (left : List Face) (old new : Files) : Type 0 where
    pub journal : List Event
    pub end : State
    pub run : IsFinishedRun setting journal end
    pub chosen : MayBe journal
    pub written : AreWritten names (out_bytes capture end.released) (spelling journal)
        (report_of setting journal (lines_of left)) old new
    pub plain : AllByRecursion HasNoFeed (lines_of left)
    pub told : Told end.released

  -- The writing of the files of a finished run of these texts was cut short.
  pub record HasBegun (left : List Face) (old new : Files) : Type 0 where
    pub journal : List Event
    pub end : State
    pub run : IsFinishedRun setting journal end
    pub chosen : MayBe journal
    pub cut : AreCutBeside names (out_bytes capture end.released) (spelling journal) (report_of setting journal)
        (lines_of left) old new
