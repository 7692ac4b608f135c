-- Laws of the crates below on which it rests how a command ends.
use Rattle.std.specs.Prelude.{◌≡◌, ◌++◌, ℕ, List}
use Rattle.std.specs.List.{AllByRecursion}
use Rattle.ftc_check.specs.Laws.{VerdictsAreOne, WholeRunsAreRight, RightRunsAreVisited, RightRunsAreSettled}
use Rattle.ftc_journal.specs.Faulty.{IsFirstFault}
use Rattle.ftc_journal.specs.Spelling.{IsEvent, IsSpelling}
use Rattle.ftc_journal.specs.Text.{spelling}
use Rattle.ftc_journal.specs.declared.event.Event.{Event}
use Rattle.ftc_journal.specs.declared.fault.JournalFault.{JournalFault}
use Rattle.ftc_journal.specs.declared.form.Version.TheVariants as version
use Rattle.ftc_pcap.specs.Grammar.{Spells, IsFault}
use Rattle.ftc_pcap.specs.declared.capture.Capture.{Capture}
use Rattle.ftc_pcap.specs.declared.capture.CaptureFault.{CaptureFault}
use Rattle.ftc_protocol.specs.declared.fate.Fate.TheVariants as became
use Rattle.ftc_protocol.specs.Moment.{IsSound}
use Rattle.ftc_protocol.specs.Orderly.{IsLostAt}
use Rattle.ftc_protocol.specs.Run.{IsRun, state_after}
use Rattle.ftc_protocol.specs.Setting.{Setting, IsSetting}
use Rattle.ftc_protocol.specs.State.{opening}

-- A text spells one capture or one journal, and has no fault then; and files have one verdict.
pub record TextLaws : Type 0 where
  pub one_capture : (text : List ℕ) (one other : Capture) → Spells text one → Spells text other → one ≡ other
  pub no_fault : (text : List ℕ) (capture : Capture) (fault : CaptureFault) → Spells text capture → IsFault text fault →
      ⊥
  pub one_journal : (text : List ℕ) (one other : List Event) → IsSpelling one text → IsSpelling other text →
      one ≡ other
  pub no_journal_fault : (text : List ℕ) (journal : List Event) (fault : JournalFault) → IsSpelling journal text →
      IsFirstFault text fault → ⊥
  pub one_verdict : VerdictsAreOne

-- at every moment of a run nothing behind a released packet is lost
abbrev pub EveryMoment : Type 0
EveryMoment = (setting : Setting) → IsSetting setting → (before after : List Event) → IsRun setting (before ++ after)
    → IsSound setting (state_after setting (opening setting) before)

-- A printed journal reads as itself, and a finished run's files are right; and of right files it is known what each
-- moment, each visit, each packet's end and each lost packet was.
pub record RunLaws : Type 0 where
  pub printed : (events : List Event) → AllByRecursion (IsEvent version.Second) events →
      IsSpelling events (spelling events)
  pub right : WholeRunsAreRight
  pub moments : EveryMoment
  pub visited : RightRunsAreVisited
  pub settled : RightRunsAreSettled
  pub lost : (setting : Setting) (journal : List Event) (packet number : ℕ)
      → (state_after setting (opening setting) journal).fate packet ≡ became.Lost number →
      IsLostAt setting journal number
