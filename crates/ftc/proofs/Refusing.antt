-- A refusal of a command's texts is how the command ends.
use Rattle.std.proofs.Common.{◌≡◌, ◌∙◌, ◌⊎◌, sym, ℕ, List, length, Some, Result, IfErr, inl, inr}
use Rattle.std.proofs.lemmas.Result.{IfErr-weaker}
use Rattle.ftc_outside.specs.Desk.{Files, SameFiles}
use Rattle.ftc_outside.specs.Tap.{Face}
use Rattle.ftc_check.specs.declared.verdict.Checked.{Checked}
use Rattle.ftc_words.specs.Command.{Named, Mode, plain, workers, alone}
use Rattle.ftc.specs.declared.status.Status.{Status}
use Rattle.ftc.specs.declared.status.Status.TheVariants as status
use Rattle.ftc_pcap.specs.declared.capture.Capture.{Capture}
use Rattle.ftc_mbox.specs.Chain.{Chain}
use Rattle.ftc_script.specs.Script.{ScriptShape}
use Rattle.ftc_journal.specs.declared.event.Event.{Event}
use Rattle.ftc.specs.Texts.{ring_of, HasChain, HasCapture, HasScript, HasJournal, HasSchedule, IsSetup, AreInputs}
use Rattle.ftc.specs.Refused.{IsTextRefused, IsWrongCapture, IsWrongScript, IsWrongSchedule, IsWrongJournal}
use Rattle.ftc.specs.Refused.{IsNeverWrong}
use Rattle.ftc.specs.Refused.{IsSetupRefused, IsInputRefused, IsScheduleRefused, IsRunRefused, IsCheckRefused}
use Rattle.ftc.specs.Checking.{Judges}
use Rattle.ftc.specs.Done.{Ends}
use Rattle.ftc.proofs.Endings.{refused_ends}

schedule_isnt_done : (sound : Type 0) (mode : Mode) (files : Files) → IsScheduleRefused sound mode files status.Done → ⊥
schedule_isnt_done sound plain files refused = refused
schedule_isnt_done sound (workers count) files refused = refused
schedule_isnt_done sound (alone name move) files refused = refused.2

pub setup_isnt_done : (sound : Type 0) (chain capture : List ℕ) (files : Files) →
    IsSetupRefused sound chain capture files status.Done → ⊥
setup_isnt_done sound chain capture files refused = elim refused [ inl first ↦ first.2 | inr behind ↦ behind.2.2 ]

input_isnt_done : (sound : Type 0) (names : Named) (files : Files) → IsInputRefused sound names files status.Done → ⊥
input_isnt_done sound names files refused = elim refused [
  | inl first ↦ setup_isnt_done sound names.chain names.capture files first
  | inr behind ↦ behind.3.2
]

run_isnt_done : (sound : Type 0) (names : Named) (mode : Mode) (files : Files) →
    IsRunRefused sound names mode files status.Done → ⊥
run_isnt_done sound names mode files refused = elim refused [
  | inl first ↦ input_isnt_done sound names files first
  | inr behind ↦ schedule_isnt_done sound mode files behind.4
]

pub ends_refused : (sound : Type 0) (names : Named) (mode : Mode) (taps left : List Face) (old new : Files)
    (ending : Status) →
    IsRunRefused sound names mode old ending → SameFiles old new → Ends sound names mode taps left old new ending
ends_refused sound names mode taps left old new =
    refused_ends _ _ _ _ _ (run_isnt_done sound names mode old)

check_isnt_done : (sound : Type 0) (names : Named) (files : Files) → IsCheckRefused sound names files status.Done → ⊥
check_isnt_done sound names files refused = elim refused [
  | inl first ↦ input_isnt_done sound names files first
  | inr behind ↦ elim behind.4 [
    | inl first ↦ first.2
    | inr behind ↦ elim behind.2 [ inl first ↦ first.2 | inr behind ↦ behind.2.2 ]
  ]
]

input_isnt_judged : (sound : Type 0) (names : Named) (files : Files) (verdict : Checked) →
    IsInputRefused sound names files (status.Check verdict) → ⊥
input_isnt_judged sound names files verdict refused = elim refused [
  | inl first ↦ elim first [ inl first ↦ first.2 | inr behind ↦ behind.2.2 ]
  | inr behind ↦ behind.3.2
]

check_isnt_judged : (sound : Type 0) (names : Named) (files : Files) (verdict : Checked) →
    IsCheckRefused sound names files (status.Check verdict) → ⊥
check_isnt_judged sound names files verdict refused = elim refused [
  | inl first ↦ input_isnt_judged sound names files verdict first
  | inr behind ↦ elim behind.4 [
    | inl first ↦ first.2
    | inr behind ↦ elim behind.2 [ inl first ↦ first.2 | inr behind ↦ behind.2.2 ]
  ]
]

pub judges_refused : (sound : Type 0) (names : Named) (files : Files) (ending : Status) →
    IsCheckRefused sound names files ending → Judges sound names files ending
judges_refused sound names files status.Done refused = absurd (check_isnt_done sound names files refused)
judges_refused sound names files status.Usage refused = refused
judges_refused sound names files (status.Chain line cause) refused = refused
judges_refused sound names files (status.Capture at cause) refused = refused
judges_refused sound names files (status.Script line cause) refused = refused
judges_refused sound names files (status.Schedule line cause) refused = refused
judges_refused sound names files (status.Ports cause) refused = refused
judges_refused sound names files (status.Journal line cause) refused = refused
judges_refused sound names files (status.Beats line cause) refused = refused
judges_refused sound names files (status.Check verdict) refused =
    absurd (check_isnt_judged sound names files verdict refused)
judges_refused sound names files status.DeskFault refused = refused
judges_refused sound names files status.NoMemory refused = tt

-- ---- what was said of the files as they are now, of the files as they were

pub refused_before : (sound now-sound : Type 0) (old new : Files) (name : List ℕ) (IsWrong : List ℕ → Status →
    Type 0) (ending : Status) → (sound → now-sound) → SameFiles old new
    → IsTextRefused now-sound new name IsWrong ending → IsTextRefused sound old name IsWrong ending
refused_before sound now-sound old new name IsWrong status.Done stays same refused =
    (refused.0, sym (same name) ∙ refused.1, refused.2)
refused_before sound now-sound old new name IsWrong status.Usage stays same refused =
    (refused.0, sym (same name) ∙ refused.1, refused.2)
refused_before sound now-sound old new name IsWrong (status.Chain line cause) stays same refused =
    (refused.0, sym (same name) ∙ refused.1, refused.2)
refused_before sound now-sound old new name IsWrong (status.Capture at cause) stays same refused =
    (refused.0, sym (same name) ∙ refused.1, refused.2)
refused_before sound now-sound old new name IsWrong (status.Script line cause) stays same refused =
    (refused.0, sym (same name) ∙ refused.1, refused.2)
refused_before sound now-sound old new name IsWrong (status.Schedule line cause) stays same refused =
    (refused.0, sym (same name) ∙ refused.1, refused.2)
refused_before sound now-sound old new name IsWrong (status.Ports cause) stays same refused =
    (refused.0, sym (same name) ∙ refused.1, refused.2)
refused_before sound now-sound old new name IsWrong (status.Journal line cause) stays same refused =
    (refused.0, sym (same name) ∙ refused.1, refused.2)
refused_before sound now-sound old new name IsWrong (status.Beats line cause) stays same refused =
    (refused.0, sym (same name) ∙ refused.1, refused.2)
refused_before sound now-sound old new name IsWrong (status.Check verdict) stays same refused =
    (refused.0, sym (same name) ∙ refused.1, refused.2)
refused_before sound now-sound old new name IsWrong status.DeskFault stays same refused =
    λ s. sym (same name) ∙ refused (stays s)
refused_before sound now-sound old new name IsWrong status.NoMemory stays same refused = tt

-- what a file spells stays where its bytes are the same
pub chain_stays : (name : List ℕ) (old new : Files) (chain : Chain) → new name ≡ old name → HasChain name old chain →
    HasChain name new chain
chain_stays name old new chain same has = record { text = has.text; file = same ∙ has.file; right = has.right }

pub capture_stays : (name : List ℕ) (old new : Files) (capture : Capture) → new name ≡ old name →
    HasCapture name old capture → HasCapture name new capture
capture_stays name old new capture same has = record { text = has.text; file = same ∙ has.file; right = has.right }

pub script_stays : (name : List ℕ) (old new : Files) (chain : Chain) (packets : ℕ) (script : ScriptShape) →
    new name ≡ old name → HasScript name old chain packets script → HasScript name new chain packets script
script_stays name old new chain packets script same has =
    record { text = has.text; file = same ∙ has.file; right = has.right }

pub journal_stays : (name : List ℕ) (old new : Files) (journal : List Event) → new name ≡ old name →
    HasJournal name old journal → HasJournal name new journal
journal_stays name old new journal same has = record { text = has.text; file = same ∙ has.file; right = has.right }

pub setup_stays : (chain_name capture_name : List ℕ) (old new : Files) (chain : Chain) (capture : Capture) →
    new chain_name ≡ old chain_name → new capture_name ≡ old capture_name →
    IsSetup chain_name capture_name old chain capture → IsSetup chain_name capture_name new chain capture
setup_stays chain_name capture_name old new chain capture same also setup = record {
  chain_right = chain_stays chain_name old new chain same setup.chain_right;
  capture_right = capture_stays capture_name old new capture also setup.capture_right;
}

-- ---- a text behind those that are right

-- what is refused first is refused, or what is behind it
pub refused_first : {A : Type 0} (result : Result A Status) (IsFirst IsBehind : Status → Type 0) →
    IfErr result IsFirst → IfErr result (λ ending. IsFirst ending ⊎ IsBehind ending)
refused_first result IsFirst IsBehind refused = IfErr-weaker result _ _ (λ ending is. inl is) refused

pub capture_refused : (sound : Type 0) (chain_name capture_name : List ℕ) (files : Files) (chain : Chain)
    (ending : Status) → HasChain chain_name files chain
    → IsTextRefused sound files capture_name IsWrongCapture ending
    → IsSetupRefused sound chain_name capture_name files ending
capture_refused sound chain_name capture_name files chain ending chain_right refused = inr (chain, chain_right, refused)

pub script_refused : (sound : Type 0) (names : Named) (files : Files) (chain : Chain) (capture : Capture)
    (ending : Status)
    → IsSetup names.chain names.capture files chain capture
    → IsTextRefused sound files names.script (IsWrongScript (ring_of chain) (length capture.packets)) ending
    → IsInputRefused sound names files ending
script_refused sound names files chain capture ending setup refused = inr (chain, capture, setup, refused)

pub schedule_refused : (sound : Type 0) (names : Named) (mode : Mode) (files : Files) (chain : Chain)
    (capture : Capture) (script : ScriptShape) (ending : Status)
    → AreInputs names files chain capture script → IsScheduleRefused sound mode files ending →
    IsRunRefused sound names mode files ending
schedule_refused sound names mode files chain capture script ending inputs refused =
    inr (chain, capture, script, inputs, refused)

-- what was said of the schedule as it is now, of the schedule as it was
pub schedule_refused_before : (sound now-sound : Type 0) (mode : Mode) (old new : Files) (ending : Status) →
    (sound → now-sound) → SameFiles old new
    → IsScheduleRefused now-sound mode new ending → IsScheduleRefused sound mode old ending
schedule_refused_before sound now-sound plain old new ending stays same refused = refused
schedule_refused_before sound now-sound (workers count) old new ending stays same refused = refused
schedule_refused_before sound now-sound (alone name move) old new ending stays same refused =
    refused_before sound now-sound old new name IsWrongSchedule ending stays same refused

pub schedule_before : (mode : Mode) (old new : Files) (schedule : List Event) → SameFiles old new →
    HasSchedule mode new schedule → HasSchedule mode old schedule
schedule_before plain old new schedule same has = has
schedule_before (workers count) old new schedule same has = has
schedule_before (alone name move) old new schedule same has = journal_stays name new old schedule (sym (same name)) has

pub out_refused : (sound : Type 0) (names : Named) (files : Files) (chain : Chain) (capture : Capture)
    (script : ScriptShape) (ending : Status) → AreInputs names files chain capture script
    → IsTextRefused sound files names.out IsNeverWrong ending → IsCheckRefused sound names files ending
out_refused sound names files chain capture script ending inputs refused =
    inr (chain, capture, script, inputs, inl refused)

pub journal_refused : (sound : Type 0) (names : Named) (files : Files) (chain : Chain) (capture : Capture)
    (script : ScriptShape) (out : List ℕ) (ending : Status) → AreInputs names files chain capture script
    → files names.out ≡ Some out → IsTextRefused sound files names.journal IsWrongJournal ending →
    IsCheckRefused sound names files ending
journal_refused sound names files chain capture script out ending inputs out_file refused =
    inr (chain, capture, script, inputs, inr (out, out_file, inl refused))

pub report_refused : (sound : Type 0) (names : Named) (files : Files) (chain : Chain) (capture : Capture)
    (script : ScriptShape) (out : List ℕ) (journal : List Event) (ending : Status) →
    AreInputs names files chain capture script
    → files names.out ≡ Some out → HasJournal names.journal files journal →
    IsTextRefused sound files names.report IsNeverWrong ending → IsCheckRefused sound names files ending
report_refused sound names files chain capture script out journal ending inputs out_file journal_right refused =
    inr (chain, capture, script, inputs, inr (out, out_file, inr (journal, journal_right, refused)))
