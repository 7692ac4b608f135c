-- Why the texts of a command are refused. They are read one behind another, and the first that isn't right says why.
use Rattle.std.specs.Prelude.{◌≡◌, ◌⊎◌, ℕ, List, length, Some, None, Err}
use Rattle.ftc_outside.specs.Desk.{Files}
use Rattle.ftc_mbox.specs.Chain.{Chain}
use Rattle.ftc_conf.specs.Grammar.{chain_of}
use Rattle.ftc_pcap.specs.Grammar.{IsFault}
use Rattle.ftc_pcap.specs.declared.capture.Capture.{Capture}
use Rattle.ftc_ring.specs.Ring.{RingShape}
use Rattle.ftc_script.specs.Grammar.{script_of}
use Rattle.ftc_script.specs.Script.{ScriptShape}
use Rattle.ftc_journal.specs.Faulty.{IsFirstFault}
use Rattle.ftc_journal.specs.declared.event.Event.{Event}
use Rattle.ftc_words.specs.Command.{Named, Mode, alone}
use Rattle.ftc.specs.declared.status.Status.{Status}
use Rattle.ftc.specs.declared.status.Status.TheVariants as status
use Rattle.ftc.specs.Texts.{ring_of, HasChain, HasJournal, IsSetup, AreInputs}

-- ---- one text

-- The text has a fault, by this relation of its bytes and the status; or the desk failed, a sound one since there is
-- no such file; or memory was refused.
abbrev pub IsTextRefused : Type 0 → Files → List ℕ → (List ℕ → Status → Type 0) → Status → Type 0
IsTextRefused sound files name IsWrong status.DeskFault = sound → files name ≡ None
IsTextRefused sound files name IsWrong status.NoMemory = Unit {0}
IsTextRefused sound files name IsWrong ending = (text : List ℕ) × (files name ≡ Some text) × IsWrong text ending

-- the first fault of each kind of text
abbrev pub IsWrongChain : List ℕ → Status → Type 0
IsWrongChain text (status.Chain line cause) = chain_of text ≡ Err (record { line = line; cause = cause })
IsWrongChain text other = ⊥

abbrev pub IsWrongCapture : List ℕ → Status → Type 0
IsWrongCapture text (status.Capture at cause) = IsFault text (record { at = at; cause = cause })
IsWrongCapture text other = ⊥

abbrev pub IsWrongScript : RingShape → ℕ → List ℕ → Status → Type 0
IsWrongScript ring packets text (status.Script line cause) = script_of ring packets text
    ≡ Err (record { line = line; cause = cause })
IsWrongScript ring packets text other = ⊥

-- a schedule is spelled as a journal is
abbrev pub IsWrongSchedule : List ℕ → Status → Type 0
IsWrongSchedule text (status.Schedule line cause) = IsFirstFault text (record { line = line; cause = cause })
IsWrongSchedule text other = ⊥

abbrev pub IsWrongJournal : List ℕ → Status → Type 0
IsWrongJournal text (status.Journal line cause) = IsFirstFault text (record { line = line; cause = cause })
IsWrongJournal text other = ⊥

-- a file that is taken as it is
abbrev pub IsNeverWrong : List ℕ → Status → Type 0
IsNeverWrong text ending = ⊥

-- ---- the texts of each command in order: a text is refused, or it is right and one behind it is refused

-- chain and capture, which each command that reads texts reads first
abbrev pub IsSetupRefused : Type 0 → List ℕ → List ℕ → Files → Status → Type 0
IsSetupRefused sound chain_name capture_name files ending =
    IsTextRefused sound files chain_name IsWrongChain ending
    ⊎ ((chain : Chain) × HasChain chain_name files chain
    × IsTextRefused sound files capture_name IsWrongCapture ending)

-- chain, capture and script, which runs and checks read first
abbrev pub IsInputRefused : Type 0 → Named → Files → Status → Type 0
IsInputRefused sound names files ending =
    IsSetupRefused sound names.chain names.capture files ending
    ⊎ ((chain : Chain) × (capture : Capture) × IsSetup names.chain names.capture files chain capture
    × IsTextRefused sound files names.script (IsWrongScript (ring_of chain) (length capture.packets)) ending)

-- the schedule, where a run has one
abbrev pub IsScheduleRefused : Type 0 → Mode → Files → Status → Type 0
IsScheduleRefused sound (alone name move) files ending = IsTextRefused sound files name IsWrongSchedule ending
IsScheduleRefused sound other files ending = ⊥

abbrev pub IsRunRefused : Type 0 → Named → Mode → Files → Status → Type 0
IsRunRefused sound names mode files ending =
    IsInputRefused sound names files ending
    ⊎ ((chain : Chain) × (capture : Capture) × (script : ScriptShape) × AreInputs names files chain capture script
    × IsScheduleRefused sound mode files ending)

abbrev pub IsCheckRefused : Type 0 → Named → Files → Status → Type 0
IsCheckRefused sound names files ending =
    IsInputRefused sound names files ending
    ⊎ ((chain : Chain) × (capture : Capture) × (script : ScriptShape) × AreInputs names files chain capture script
    × (IsTextRefused sound files names.out IsNeverWrong ending
    ⊎ ((out : List ℕ) × (files names.out ≡ Some out) × (IsTextRefused sound files names.journal IsWrongJournal ending
    ⊎ ((journal : List Event) × HasJournal names.journal files journal
    × IsTextRefused sound files names.report IsNeverWrong ending)))))
