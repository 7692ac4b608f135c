-- What the program says of a status: its exit code and its line.
use Rattle.std.specs.Prelude.{ℕ, List, [], ◌∷◌, ◌++◌, ◌==◌, Option, length, take, if◌then◌else◌, decimal, codes}
use Rattle.std.specs.Io.KnownBytes.{Appends}
use Rattle.ftc_base.specs.declared.refusal.Refuse.{Refuse}
use Rattle.ftc_base.specs.declared.refusal.Refuse.TheVariants as refuse
use Rattle.ftc_outside.specs.declared.desk.DeskError.{DeskError}
use Rattle.ftc_outside.specs.declared.desk.DeskError.TheVariants as desk
use Rattle.ftc_conf.specs.declared.fault.ChainCause.{ChainCause}
use Rattle.ftc_conf.specs.declared.fault.ChainCause.TheVariants as chain
use Rattle.ftc_conf.specs.declared.fault.ChainFault.{ChainFault}
use Rattle.ftc_pcap.specs.declared.capture.CaptureCause.{CaptureCause}
use Rattle.ftc_pcap.specs.declared.capture.CaptureCause.TheVariants as capture
use Rattle.ftc_pcap.specs.declared.capture.CaptureFault.{CaptureFault}
use Rattle.ftc_script.specs.declared.fault.ScriptFault.{ScriptFault}
use Rattle.ftc_script.specs.Codes as script
use Rattle.ftc_journal.specs.declared.fault.JournalCause.{JournalCause}
use Rattle.ftc_journal.specs.declared.fault.JournalCause.TheVariants as journal
use Rattle.ftc_journal.specs.declared.fault.JournalFault.{JournalFault}
use Rattle.ftc_watch.specs.declared.fault.BeatsCause.{BeatsCause}
use Rattle.ftc_watch.specs.declared.fault.BeatsCause.TheVariants as beats
use Rattle.ftc_watch.specs.declared.fault.BeatsFault.{BeatsFault}
use Rattle.ftc_check.specs.declared.verdict.Checked.{Checked}
use Rattle.ftc_check.specs.declared.verdict.Checked.TheVariants as checked
use Rattle.ftc_audit.specs.declared.cause.PortsCause.{PortsCause}
use Rattle.ftc_audit.specs.declared.cause.PortsCause.TheVariants as ports
use Rattle.ftc.specs.declared.status.Status.{Status}
use Rattle.ftc.specs.declared.status.Status.TheVariants as status

-- the numbers of the causes
abbrev pub chain_number : ChainCause → ℕ
chain_number chain.NotText = 1
chain_number chain.NoFailures = 2
chain_number chain.NoPartitions = 3
chain_number chain.UnknownWord = 4
chain_number chain.WordCount = 5
chain_number chain.BadNumber = 6
chain_number chain.BadAddress = 7
chain_number chain.BadRange = 8
chain_number chain.TooManyServers = 9
chain_number chain.TooManyItems = 10
chain_number chain.Replicas = 11
chain_number chain.Empty = 12
chain_number chain.SpareOrder = 13

abbrev pub capture_number : CaptureCause → ℕ
capture_number capture.NotCapture = 1
capture_number capture.Version = 2
capture_number capture.LinkType = 3
capture_number capture.RecordTooLong = 4
capture_number capture.Cut = 5
capture_number capture.TooMany = 6
capture_number capture.TooBig = 7

abbrev pub journal_number : JournalCause → ℕ
journal_number journal.Header = 1
journal_number journal.Word = 2
journal_number journal.Range = 3
journal_number journal.Cut = 4

abbrev pub beats_number : BeatsCause → ℕ
beats_number beats.Header = 1
beats_number beats.Word = 2
beats_number beats.Order = 3
beats_number beats.Past = 4
beats_number beats.Range = 5
beats_number beats.TooMany = 6

-- the exit code
abbrev pub code_of : Status → ℕ
code_of status.Done = 0
code_of status.Usage = 2
code_of (status.Chain line cause) = 3
code_of (status.Capture at cause) = 3
code_of (status.Script line cause) = 3
code_of (status.Schedule line cause) = 3
code_of (status.Journal line cause) = 3
code_of (status.Beats line cause) = 3
code_of status.DeskFault = 4
code_of status.NoMemory = 5
code_of (status.Check verdict) = 6
code_of (status.Ports cause) = 7

-- the line of a fault at a place of that kind
abbrev pub fault_line : List ℕ → ℕ → ℕ → List ℕ
fault_line kind place number = kind ++ codes " " ++ decimal place ++ codes ": cause " ++ decimal number

-- the line of what a check says; Yes has none
abbrev pub verdict_line : Checked → List ℕ
verdict_line checked.Yes = []
verdict_line (checked.NotRun event) = codes "check: event " ++ decimal event
verdict_line checked.Unfinished = codes "check: unfinished"
verdict_line (checked.OutDiffers at) = codes "check: out byte " ++ decimal at
verdict_line (checked.ReportDiffers at) = codes "check: report byte " ++ decimal at

-- the line of what is wrong with a port table
abbrev pub ports_line : PortsCause → List ℕ
ports_line ports.NotNat = codes "ports: not a nat"
ports_line (ports.BadStep place) = codes "ports: step " ++ decimal place

-- the line on standard error, without a line feed
abbrev pub line_of : Status → List ℕ
line_of status.Done = []
line_of status.Usage = codes "usage: ftc run CHAIN SCRIPT CAPTURE OUT JOURNAL REPORT [--workers N | --alone SCHEDULE]"
line_of (status.Chain line cause) = fault_line (codes "chain: line") line (chain_number cause)
line_of (status.Capture at cause) = fault_line (codes "capture: byte") at (capture_number cause)
line_of (status.Script line cause) = fault_line (codes "script: line") line (script.code_of cause)
line_of (status.Schedule line cause) = fault_line (codes "schedule: line") line (journal_number cause)
line_of (status.Journal line cause) = fault_line (codes "journal: line") line (journal_number cause)
line_of (status.Beats line cause) = fault_line (codes "beats: line") line (beats_number cause)
line_of (status.Check verdict) = verdict_line verdict
line_of (status.Ports cause) = ports_line cause
line_of status.DeskFault = codes "desk: failed"
line_of status.NoMemory = codes "memory: refused"

-- what is said on standard error: the line and a line feed, or nothing where it is empty
abbrev pub told_of : Status → List ℕ
told_of status = if length (line_of status) == 0 then line_of status else line_of status ++ 10 ∷ []

-- a writer whose bytes are known has a front of the line behind them
abbrev pub AppendsFront : Option (List ℕ) → Option (List ℕ) → List ℕ → Type 0
AppendsFront old new line = (count : ℕ) × Appends old new (take count line)

-- how a command ends whose desk or text was refused
abbrev pub desk_status : DeskError → Status
desk_status desk.Failed = status.DeskFault
desk_status desk.NoMemory = status.NoMemory

abbrev pub chain_status : Refuse ChainFault → Status
chain_status (refuse.Bad fault) = status.Chain fault.line fault.cause
chain_status refuse.NoMemory = status.NoMemory

abbrev pub capture_status : Refuse CaptureFault → Status
capture_status (refuse.Bad fault) = status.Capture fault.at fault.cause
capture_status refuse.NoMemory = status.NoMemory

abbrev pub script_status : Refuse ScriptFault → Status
script_status (refuse.Bad fault) = status.Script fault.line fault.cause
script_status refuse.NoMemory = status.NoMemory

abbrev pub journal_status : Refuse JournalFault → Status
journal_status (refuse.Bad fault) = status.Journal fault.line fault.cause
journal_status refuse.NoMemory = status.NoMemory

-- a schedule is a journal's text
abbrev pub schedule_status : Refuse JournalFault → Status
schedule_status (refuse.Bad fault) = status.Schedule fault.line fault.cause
schedule_status refuse.NoMemory = status.NoMemory

abbrev pub ports_status : Refuse PortsCause → Status
ports_status (refuse.Bad cause) = status.Ports cause
ports_status refuse.NoMemory = status.NoMemory

abbrev pub beats_status : Refuse BeatsFault → Status
beats_status (refuse.Bad fault) = status.Beats fault.line fault.cause
beats_status refuse.NoMemory = status.NoMemory
