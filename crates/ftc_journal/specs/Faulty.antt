-- The first fault of a text that is no journal.
use Rattle.std.specs.Prelude.{◌≡◌, ◌≢◌, ◌⊎◌, ℕ, ◌+◌, List, [], ◌∷◌, ◌++◌, length}
use Rattle.std.specs.List.{AllByRecursion}
use Rattle.ftc_base.specs.Endpoint.{parts_of}
use Rattle.ftc_journal.specs.declared.event.Event.{Event}
use Rattle.ftc_journal.specs.declared.fault.JournalCause.{JournalCause}
use Rattle.ftc_journal.specs.declared.fault.JournalCause.TheVariants.{Header, Word, Range, Cut}
use Rattle.ftc_journal.specs.declared.fault.JournalFault.{JournalFault}
use Rattle.ftc_journal.specs.declared.form.Version.{Version}
use Rattle.ftc_journal.specs.Text.{words_of}
use Rattle.ftc_journal.specs.Spelling.{IsEvent, header_of, spelling_in}
use Rattle.ftc_journal.specs.Formed.{IsFormed}

-- bytes without a line feed
abbrev pub IsOneLine : List ℕ → Type 0
IsOneLine bytes = AllByRecursion (λ byte. byte ≢ 10) bytes

-- the text doesn't begin with the line of a header
pub record IsHeadless (text : List ℕ) (fault : JournalFault) : Type 0 where
  pub told : fault ≡ record { line = 1; cause = Header }
  pub other : (version : Version) (rest : List ℕ) → text ≢ header_of version ++ 10 ∷ rest

-- a last line that isn't empty has no line feed
pub record IsCut (rest : List ℕ) (cause : JournalCause) : Type 0 where
  pub named : cause ≡ Cut
  pub some : rest ≢ []
  pub one_line : IsOneLine rest

-- a line without a form is refused for its words, and one with a form for a bound, where it says no event in the bounds
abbrev pub IsLineFault : Version → List ℕ → JournalCause → Type 0
IsLineFault version line Word = ¬ IsFormed (parts_of 32 line)
IsLineFault version line Range =
    IsFormed (parts_of 32 line) × ((event : Event) → IsEvent version event → line ≢ words_of event)
IsLineFault version line other = ⊥

-- the first line is refused for its words or for a bound
pub record IsRefused (version : Version) (rest : List ℕ) (cause : JournalCause) : Type 0 where
  pub line : List ℕ
  pub behind : List ℕ
  pub spelled : rest ≡ line ++ 10 ∷ behind
  pub one_line : IsOneLine line
  pub refused : IsLineFault version line cause

-- behind the lines of some events stands one that is refused
pub record IsFaulty (text : List ℕ) (fault : JournalFault) : Type 0 where
  pub version : Version
  pub events : List Event
  pub rest : List ℕ
  pub bounds : AllByRecursion (IsEvent version) events
  pub spelled : text ≡ spelling_in version events ++ rest
  pub line : fault.line ≡ 2 + length events
  pub bad : IsCut rest fault.cause ⊎ IsRefused version rest fault.cause

-- the first fault of a text
abbrev pub IsFirstFault : List ℕ → JournalFault → Type 0
IsFirstFault text fault = IsHeadless text fault ⊎ IsFaulty text fault
