-- What the texts of a command are, on a desk that tells its files.
use Rattle.std.specs.Prelude.{◌≡◌, ℕ, List, [], length, Some, Ok}
use Rattle.ftc_outside.specs.Desk.{Files}
use Rattle.ftc_pcap.specs.Grammar.{Spells}
use Rattle.ftc_pcap.specs.declared.capture.Capture.{Capture}
use Rattle.ftc_mbox.specs.Chain.{Chain}
use Rattle.ftc_conf.specs.Grammar.{chain_of}
pub use Rattle.ftc_protocol.specs.ChainRing.{ring_of}
use Rattle.ftc_script.specs.Script.{ScriptShape}
use Rattle.ftc_script.specs.Grammar.{script_of}
use Rattle.ftc_journal.specs.Spelling.{IsSpelling}
use Rattle.ftc_journal.specs.declared.event.Event.{Event}
use Rattle.ftc_words.specs.Command.{Named, Mode, alone}

-- The file of that name spells this chain, or this capture.
pub record HasChain (name : List ℕ) (files : Files) (chain : Chain) : Type 0 where
  pub text : List ℕ
  pub file : files name ≡ Some text
  pub right : chain_of text ≡ Ok chain

pub record HasCapture (name : List ℕ) (files : Files) (capture : Capture) : Type 0 where
  pub text : List ℕ
  pub file : files name ≡ Some text
  pub right : Spells text capture

-- The file spells this script for a chain and its packets; or this journal.
pub record HasScript (name : List ℕ) (files : Files) (chain : Chain) (packets : ℕ) (script : ScriptShape) : Type 0 where
  pub text : List ℕ
  pub file : files name ≡ Some text
  pub right : script_of (ring_of chain) packets text ≡ Ok script

pub record HasJournal (name : List ℕ) (files : Files) (journal : List Event) : Type 0 where
  pub text : List ℕ
  pub file : files name ≡ Some text
  pub right : IsSpelling journal text

-- A chain and a capture that are right, by the names of their files.
pub record IsSetup (chain_name capture_name : List ℕ) (files : Files) (chain : Chain) (capture : Capture) : Type 0 where
  pub chain_right : HasChain chain_name files chain
  pub capture_right : HasCapture capture_name files capture

-- These, and a script for both.
pub record AreInputs (names : Named) (files : Files) (chain : Chain) (capture : Capture)
    (script : ScriptShape) : Type 0 where
  pub setup : IsSetup names.chain names.capture files chain capture
  pub script_right : HasScript names.script files chain (length capture.packets) script

-- the schedule by which a chain is run: the events of the file that is named, and none where none is
abbrev pub HasSchedule : Mode → Files → List Event → Type 0
HasSchedule (alone name move) files schedule = HasJournal name files schedule
HasSchedule other files schedule = schedule ≡ []

-- What a run is given.
pub record AreTexts (names : Named) (mode : Mode) (files : Files) (chain : Chain) (capture : Capture)
    (script : ScriptShape) (schedule : List Event) : Type 0 where
  pub inputs : AreInputs names files chain capture script
  pub schedule_right : HasSchedule mode files schedule
