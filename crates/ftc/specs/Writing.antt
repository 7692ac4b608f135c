-- What the writing of a run's three files leaves.
use Rattle.std.specs.Prelude.{◌≡◌, ◌≢◌, ◌⊎◌, ℕ, List, [], ◌∷◌, Some}
use Rattle.std.specs.List.{AllByRecursion}
use Rattle.ftc_outside.specs.Desk.{Files}
use Rattle.ftc_outside.specs.Tap.{HasNoFeed}
use Rattle.ftc_words.specs.Command.{Named}
use Rattle.ftc.specs.Output.{MayHold, SameElsewhere, written_by}

-- the names of the files that are written are different
pub record AreApart (names : Named) : Type 0 where
  pub out_journal : names.out ≢ names.journal
  pub out_report : names.out ≢ names.report
  pub journal_report : names.journal ≢ names.report

-- the name is none of those of the files that a run writes
pub record IsUnwritten (names : Named) (name : List ℕ) : Type 0 where
  pub out : name ≢ names.out
  pub journal : name ≢ names.journal
  pub report : name ≢ names.report

-- the names of the files that are read are none of theirs
pub record AreDifferent (names : Named) : Type 0 where
  pub chain : IsUnwritten names names.chain
  pub script : IsUnwritten names names.script
  pub capture : IsUnwritten names names.capture
  pub written : AreApart names

-- each file holds all that was to be written
pub record AreWritten (names : Named) (out journal report : List ℕ) (old new : Files) : Type 0 where
  pub out_file : new names.out ≡ Some out
  pub journal_file : new names.journal ≡ Some journal
  pub report_file : new names.report ≡ Some report
  pub others : SameElsewhere (written_by names) old new

-- each file is as it was, or holds some front of it
pub record AreCutShort (names : Named) (out journal report : List ℕ) (old new : Files) : Type 0 where
  pub out_file : MayHold (old names.out) (new names.out) out
  pub journal_file : MayHold (old names.journal) (new names.journal) journal
  pub report_file : MayHold (old names.report) (new names.report) report
  pub others : SameElsewhere (written_by names) old new
  pub journal_order : (new names.journal ≡ old names.journal) ⊎ (new names.out ≡ Some out)
  pub report_order : (new names.report ≡ old names.report)
      ⊎ ((new names.out ≡ Some out) × (new names.journal ≡ Some journal))

-- the journal and the report hold all that was to be written
pub record AreTextsWritten (names : Named) (journal report : List ℕ) (old new : Files) : Type 0 where
  pub journal_file : new names.journal ≡ Some journal
  pub report_file : new names.report ≡ Some report
  pub others : SameElsewhere (names.journal ∷ names.report ∷ []) old new

-- Each of the two is as it was, or holds some front of it: of a report of some taps' lines. The report was begun only
-- behind the journal, and with the lines of the taps that are left.
pub record AreTextsCut (names : Named) (journal : List ℕ) (report : List (List ℕ) → List ℕ) (left : List (List ℕ))
    (old new : Files) : Type 0 where
  pub lines : List (List ℕ)
  pub plain : AllByRecursion HasNoFeed lines
  pub journal_file : MayHold (old names.journal) (new names.journal) journal
  pub report_file : MayHold (old names.report) (new names.report) (report lines)
  pub others : SameElsewhere (names.journal ∷ names.report ∷ []) old new
  pub order : (new names.report ≡ old names.report) ⊎ ((new names.journal ≡ Some journal) × (lines ≡ left))

-- The three files were cut short, with a report of some taps' lines: those of the taps that are left, where any of it
-- was written.
pub record AreCutBeside (names : Named) (out journal : List ℕ) (report : List (List ℕ) → List ℕ)
    (left : List (List ℕ)) (old new : Files) : Type 0 where
  pub lines : List (List ℕ)
  pub plain : AllByRecursion HasNoFeed lines
  pub cut : AreCutShort names out journal (report lines) old new
  pub of_taps : (new names.report ≡ old names.report) ⊎ (lines ≡ left)
