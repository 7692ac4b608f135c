-- What the check of a run's files says.
use Rattle.std.specs.Prelude.{◌≡◌, ◌≢◌, ◌<◌, ◌++◌, ℕ, List, length, Some}
use Rattle.ftc_outside.specs.Desk.{Files}
use Rattle.ftc_pcap.specs.declared.capture.Capture.{Capture}
use Rattle.ftc_script.specs.Script.{ScriptShape}
use Rattle.ftc_journal.specs.declared.event.Event.{Event}
use Rattle.ftc_mbox.specs.Chain.{Chain}
use Rattle.ftc_serial.specs.Packets.{bytes_of_packets}
use Rattle.ftc_protocol.specs.declared.fate.Fate.TheVariants as became
use Rattle.ftc_protocol.specs.Moment.{IsSound}
use Rattle.ftc_protocol.specs.Setting.{Setting, setting_of}
use Rattle.ftc_protocol.specs.State.{ChainState, opening}
use Rattle.ftc_protocol.specs.Run.{state_after}
use Rattle.ftc_protocol.specs.Orderly.{IsLostAt}
use Rattle.ftc_check.specs.Verdict.{IsVerdict}
use Rattle.ftc_protocol.specs.Whole.{ReleasedVisited}
use Rattle.ftc_check.specs.declared.verdict.Checked.{Checked}
use Rattle.ftc_check.specs.declared.verdict.Checked.TheVariants.{Yes}
use Rattle.ftc.specs.declared.status.Status.{Status}
use Rattle.ftc.specs.declared.status.Status.TheVariants as status
use Rattle.ftc_words.specs.Command.{Named}
use Rattle.ftc.specs.Texts.{HasJournal, AreInputs}
use Rattle.ftc.specs.Refused.{IsCheckRefused}

-- What is checked: all six files.
pub record AreChecked (names : Named) (files : Files) (chain : Chain) (capture : Capture) (script : ScriptShape)
    (out : List ℕ) (journal : List Event) (report : List ℕ) : Type 0 where
  pub inputs : AreInputs names files chain capture script
  pub out_file : files names.out ≡ Some out
  pub journal_right : HasJournal names.journal files journal
  pub report_file : files names.report ≡ Some report

-- the state of the protocol after a journal
abbrev pub state_after_journal : Chain → Capture → ScriptShape → List Event → ChainState
state_after_journal chain capture script journal =
    state_after (setting_of chain (bytes_of_packets capture.packets) script)
    (opening (setting_of chain (bytes_of_packets capture.packets) script)) journal

-- The files are right in themselves, and this is the first that applies of what can be said of them.
pub record IsJudged (names : Named) (files : Files) (verdict : Checked) : Type 0 where
  pub chain : Chain
  pub capture : Capture
  pub script : ScriptShape
  pub out : List ℕ
  pub journal : List Event
  pub report : List ℕ
  pub checked : AreChecked names files chain capture script out journal report
  pub verdict_right : IsVerdict
      (setting_of chain (bytes_of_packets capture.packets) script) capture out journal report verdict

-- After each front of the journal the serial run of the visits that stand exists and released what was released, the
-- first live member of each group has that run's content, and all visits of a released packet stand.
abbrev pub IsSoundThroughout : Setting → List Event → Type 0
IsSoundThroughout setting journal =
    (before after : List Event) → journal ≡ before ++ after →
    ∥ IsSound setting (state_after setting (opening setting) before) ∥₁

-- The files are those of one run, and at every moment of it nothing behind a released packet was lost. Each released
-- packet has visited all middleboxes, and none of these visits was undone; each packet was released, filtered or
-- lost; and one that is lost went away by the event of its fate's number, which could lose something where it stands.
pub record IsRightRun (names : Named) (files : Files) : Type 0 where
  pub judged : IsJudged names files Yes
  pub sound : IsSoundThroughout
      (setting_of judged.chain (bytes_of_packets judged.capture.packets) judged.script) judged.journal
  pub visited : ∥ ReleasedVisited (length judged.chain.rules) judged.journal ∥₁
  pub settled : (packet : ℕ) → packet < length judged.capture.packets →
      (state_after_journal judged.chain judged.capture judged.script judged.journal).fate packet ≢ became.Inside
  pub causes : (packet number : ℕ) → packet < length judged.capture.packets →
      (state_after_journal judged.chain judged.capture judged.script judged.journal).fate packet ≡ became.Lost number →
      IsLostAt (setting_of judged.chain (bytes_of_packets judged.capture.packets) judged.script) judged.journal number

-- How a check with these names ends, which changes no file. Where the desk is sound, it fails only where the first
-- file that isn't right is missing.
abbrev pub Judges : Type 0 → Named → Files → Status → Type 0
Judges sound names files status.Done = IsRightRun names files
Judges sound names files (status.Check verdict) = IsJudged names files verdict × (verdict ≢ Yes)
Judges sound names files status.NoMemory = Unit {0}
Judges sound names files refused = IsCheckRefused sound names files refused

-- what a check may say of such files: Yes, or that the desk failed, or that memory was refused
abbrev pub IsYesOrRefused : Status → Type 0
IsYesOrRefused status.Done = Unit {0}
IsYesOrRefused status.DeskFault = Unit {0}
IsYesOrRefused status.NoMemory = Unit {0}
IsYesOrRefused other = ⊥

-- All six files can be read.
pub record AreReadable (names : Named) (files : Files) : Type 0 where
  pub chain : Chain
  pub capture : Capture
  pub script : ScriptShape
  pub out : List ℕ
  pub journal : List Event
  pub report : List ℕ
  pub checked : AreChecked names files chain capture script out journal report

-- how a check of such files may end where the desk didn't fail
abbrev pub IsCheckEnd : Status → Type 0
IsCheckEnd status.Done = Unit {0}
IsCheckEnd (status.Check verdict) = Unit {0}
IsCheckEnd status.NoMemory = Unit {0}
IsCheckEnd other = ⊥
