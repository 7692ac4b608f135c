-- What a port table is read from, and what is told of it.
use Rattle.std.specs.Prelude.{◌⊎◌, ℕ, List}
use Rattle.ftc_audit.specs.Table.{IsTableOf, IsCause}
use Rattle.ftc_audit.specs.Text.{ports_text}
use Rattle.ftc_audit.specs.declared.line.PortLine.{PortLine}
use Rattle.ftc_journal.specs.declared.event.Event.{Event}
use Rattle.ftc_mbox.specs.Chain.{Chain}
use Rattle.ftc_outside.specs.Desk.{Files, SameFiles, SameButAt, GrewAt, MayHaveGrownAt}
use Rattle.ftc_pcap.specs.declared.capture.Capture.{Capture}
use Rattle.ftc_serial.specs.Packets.{bytes_of_packets}
use Rattle.ftc_serial.specs.Trace.{trace_of}
use Rattle.ftc.specs.declared.porting.PortNames.{PortNames}
use Rattle.ftc.specs.declared.status.Status.{Status}
use Rattle.ftc.specs.declared.status.Status.TheVariants as status
use Rattle.ftc.specs.Texts.{HasJournal, IsSetup}
use Rattle.ftc.specs.Refused.{IsTextRefused, IsWrongJournal, IsSetupRefused}
use Rattle.ftc.specs.Ending.{EndsAs}
use Rattle.ftc.specs.Watching.{standard_output}

-- the names of the files of a port table
pub record PortNamed : Type 0 where
  pub chain : List ℕ
  pub capture : List ℕ
  pub journal : List ℕ

abbrev pub port_names : List ℕ → List ℕ → List ℕ → PortNamed
port_names chain capture journal = record { chain = chain; capture = capture; journal = journal }

abbrev pub ports_by : PortNames → PortNamed
ports_by names = port_names names.chain.now names.capture.now names.journal.now

-- A chain, a capture and a journal that are right; and in the serial run of the journal's trace the server has this
-- port table.
pub record IsTableIn (names : PortNamed) (server : ℕ) (files : Files) (lines : List PortLine) : Type 0 where
  pub chain : Chain
  pub capture : Capture
  pub journal : List Event
  pub setup : IsSetup names.chain names.capture files chain capture
  pub journal_right : HasJournal names.journal files journal
  pub table : IsTableOf chain.rules (bytes_of_packets capture.packets) (trace_of journal) server lines

-- why a server has no table: it is no translator, or it is one and a step of the trace isn't legal
abbrev pub HasNoTable : Chain → Capture → List Event → ℕ → Status → Type 0
HasNoTable chain capture journal server (status.Ports cause) =
    IsCause chain.rules (bytes_of_packets capture.packets) (trace_of journal) server cause
HasNoTable chain capture journal server other = ⊥

-- a text is refused, or it is right and one behind it is refused; or all are right and there is no table
abbrev pub ArePortsRefused : Type 0 → PortNamed → ℕ → Files → Status → Type 0
ArePortsRefused sound names server files ending =
    IsSetupRefused sound names.chain names.capture files ending
    ⊎ ((chain : Chain) × (capture : Capture) × IsSetup names.chain names.capture files chain capture
    × (IsTextRefused sound files names.journal IsWrongJournal ending
    ⊎ ((journal : List Event) × HasJournal names.journal files journal
    × HasNoTable chain capture journal server ending)))

-- Standard output has the table more, and no file has changed.
pub record ArePortsTold (names : PortNamed) (server : ℕ) (old new : Files) : Type 0 where
  pub lines : List PortLine
  pub given : IsTableIn names server old lines
  pub told : GrewAt standard_output (ports_text lines) old new
  pub others : SameButAt standard_output old new

-- It has some front of the table more.
pub record ArePortsCutShort (names : PortNamed) (server : ℕ) (old new : Files) : Type 0 where
  pub lines : List PortLine
  pub given : IsTableIn names server old lines
  pub told : MayHaveGrownAt standard_output (ports_text lines) old new
  pub others : SameButAt standard_output old new

-- How such a command ends.
abbrev pub PortsEnd : Type 0 → PortNamed → ℕ → Files → Files → Status → Type 0
PortsEnd sound names server old new =
    EndsAs sound (ArePortsTold names server old new) (ArePortsRefused sound names server old) (SameFiles old new)
    (ArePortsCutShort names server old new)
