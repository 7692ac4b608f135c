-- What is so at the end of a command, for each command.
use Rattle.std.specs.Prelude.{List, ℕ, Option, Some}
use Rattle.std.specs.Borrow.{Bor}
use Rattle.ftc_outside.specs.Desk.{Files, SameFiles}
use Rattle.ftc_outside.specs.Tap.{Face}
use Rattle.ftc_pcap.specs.declared.capture.Capture.{Capture}
use Rattle.ftc_mbox.specs.Chain.{Chain}
use Rattle.ftc_script.specs.Script.{ScriptShape}
use Rattle.ftc_journal.specs.declared.event.Event.{Event}
use Rattle.ftc_watch.specs.Beats.{BeatsShape}
use Rattle.ftc_words.specs.Given.{texts_of}
use Rattle.ftc_words.specs.Command.{Mode, Command, run, make, check, ports, watch, command_of}
use Rattle.ftc.specs.declared.status.Status.{Status}
use Rattle.ftc.specs.Answers.{IsRunAnswer, IsMakeAnswer, IsCheckAnswer, IsPortsAnswer, IsWatchAnswer}
use Rattle.ftc.specs.Texts.{AreTexts}
use Rattle.ftc.specs.Checking.{Judges, IsRightRun, AreReadable}
use Rattle.ftc.specs.Done.{Ends, IsDone}
use Rattle.ftc_audit.specs.declared.line.PortLine.{PortLine}
use Rattle.ftc.specs.Making.{MakeEnds}
use Rattle.ftc.specs.Porting.{port_names, IsTableIn, PortsEnd}
use Rattle.ftc.specs.Watching.{watch_names, AreBeats, WatchEnds}

-- the command that was asked for
abbrev pub asked : List (Bor (List ℕ)) → Option Command
asked words = command_of (texts_of words)

-- what it may answer at all, over any desk
abbrev pub IsAnswer : Option Command → Status → Type 0
IsAnswer (Some (run names mode)) ending = IsRunAnswer ending
IsAnswer (Some (make packets seed capture)) ending = IsMakeAnswer ending
IsAnswer (Some (check names)) ending = IsCheckAnswer ending
IsAnswer (Some (ports chain capture journal server)) ending = IsPortsAnswer ending
IsAnswer (Some (watch limit chain capture beats script)) ending = IsWatchAnswer ending
IsAnswer other ending = Unit {0}

-- what the files are at its end, from what they were, where these taps were lent and those are left; a check changes
-- no file
abbrev pub HasEnded : Type 0 → Option Command → List Face → List Face → Files → Files → Status → Type 0
HasEnded sound (Some (run names mode)) taps left old new ending = Ends sound names mode taps left old new ending
HasEnded sound (Some (make packets seed capture)) taps left old new ending =
    MakeEnds sound packets seed capture old new ending
HasEnded sound (Some (check names)) taps left old new ending = Judges sound names old ending × SameFiles old new
HasEnded sound (Some (ports chain capture journal server)) taps left old new ending = PortsEnd sound
    (port_names chain capture journal) server old new ending
HasEnded sound (Some (watch limit chain capture beats script)) taps left old new ending = WatchEnds sound limit
    (watch_names chain capture beats script) old new ending
HasEnded sound other taps left old new ending = SameFiles old new

-- none but a run tells the taps anything
abbrev pub IsQuiet : Option Command → Type 0
IsQuiet (Some (run names mode)) = ⊥
IsQuiet other = Unit {0}

-- a run or a watch whose texts are right, a capture to be made, or a port table that there is
abbrev pub HasTexts : Option Command → Files → Type 0
HasTexts (Some (run names mode)) files = (chain : Chain) × (capture : Capture) × (script : ScriptShape)
    × (schedule : List Event)
    × AreTexts names mode files chain capture script schedule
HasTexts (Some (make packets seed capture)) files = Unit {0}
HasTexts (Some (ports chain capture journal server)) files = (lines : List PortLine)
    × IsTableIn (port_names chain capture journal) server files lines
HasTexts (Some (watch limit chain capture beats script)) files = (read : BeatsShape)
    × AreBeats (watch_names chain capture beats script) files read
HasTexts other files = ⊥

-- a check whose files can all be read
abbrev pub HasFiles : Option Command → Files → Type 0
HasFiles (Some (check names)) files = AreReadable names files
HasFiles other files = ⊥

-- a check whose files are those of one run
abbrev pub HasRightRun : Option Command → Files → Type 0
HasRightRun (Some (check names)) files = IsRightRun names files
HasRightRun other files = ⊥

-- a check whose files were left by a run of the same names that was done
abbrev pub WasLeft : Option Command → Files → Type 0
WasLeft (Some (check names)) files = (mode : Mode) × (lines : List (List ℕ)) × (earlier : Files)
    × IsDone names mode lines earlier files
WasLeft other files = ⊥
