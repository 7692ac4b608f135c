-- Each of the relations leaves one answer, what a run wrote is right, and what is right is such a run.
use Rattle.std.specs.Prelude.{ℕ, ◌≡◌, ◌≢◌, ◌<◌, List, []}
use Rattle.std.specs.List.{AllByRecursion}
use Rattle.ftc_journal.specs.declared.event.Event.{Event}
use Rattle.ftc_outside.specs.Tap.{HasNoFeed}
use Rattle.ftc_pcap.specs.declared.capture.Capture.{Capture}
use Rattle.ftc_serial.specs.Serial.{State}
use Rattle.ftc_protocol.specs.declared.fate.Fate.TheVariants as became
use Rattle.ftc_protocol.specs.Setting.{Setting, IsSetting, servers, count}
use Rattle.ftc_protocol.specs.State.{opening}
use Rattle.ftc_protocol.specs.Run.{state_after}
use Rattle.ftc_report.specs.Output.{out_bytes}
use Rattle.ftc_report.specs.Report.{report_of}
use Rattle.ftc_check.specs.declared.verdict.Checked.{Checked}
use Rattle.ftc_check.specs.declared.verdict.Checked.TheVariants.{Yes}
use Rattle.ftc_check.specs.Difference.{IsFirstDifference}
use Rattle.ftc_check.specs.Taps.{IsWithoutTaps}
use Rattle.ftc_check.specs.Verdict.{IsWhole, IsVerdict}
use Rattle.ftc_protocol.specs.Whole.{ReleasedVisited}

abbrev pub DifferencesAreOne : Type 0
DifferencesAreOne = (one another : List ℕ) (place other : ℕ) → IsFirstDifference one another place →
    IsFirstDifference one another other → place ≡ other

abbrev pub FrontsAreOne : Type 0
FrontsAreOne = (text front other : List ℕ) → IsWithoutTaps text front → IsWithoutTaps text other → front ≡ other

abbrev pub VerdictsAreOne : Type 0
VerdictsAreOne =
    (setting : Setting) (capture : Capture) (out : List ℕ) (journal : List Event) (report : List ℕ)
    (verdict other : Checked) → IsVerdict setting capture out journal report verdict →
    IsVerdict setting capture out journal report other → verdict ≡ other

-- a report without the lines of its taps is that which is written without taps
abbrev pub OwnReportsStay : Type 0
OwnReportsStay =
    (setting : Setting) (journal : List Event) (lines : List (List ℕ)) → AllByRecursion HasNoFeed lines →
    IsWithoutTaps (report_of setting journal lines) (report_of setting journal [])

-- the OUT and the report of a finished run are right beside its journal, whatever its taps say
abbrev pub WholeRunsAreRight : Type 0
WholeRunsAreRight =
    (setting : Setting) (capture : Capture) (journal : List Event) (end : State)
    (lines : List (List ℕ)) → AllByRecursion HasNoFeed lines → IsWhole setting journal end →
    IsVerdict setting capture (out_bytes capture end.released) journal (report_of setting journal lines) Yes

-- and no other verdict says so of them
abbrev pub WholeRunsAreOnlyRight : Type 0
WholeRunsAreOnlyRight =
    (setting : Setting) (capture : Capture) (journal : List Event) (end : State) (lines : List (List ℕ))
    (verdict : Checked) → AllByRecursion HasNoFeed lines → IsWhole setting journal end →
    IsVerdict setting capture (out_bytes capture end.released) journal (report_of setting journal lines) verdict →
    verdict ≡ Yes

-- in a run whose files are right each released packet has visited all middleboxes, and none of these visits was undone
abbrev pub RightRunsAreVisited : Type 0
RightRunsAreVisited =
    (setting : Setting) → IsSetting setting → (capture : Capture) (out : List ℕ) (journal : List Event)
    (report : List ℕ) → IsVerdict setting capture out journal report Yes →
    ∥ ReleasedVisited (servers setting) journal ∥₁

-- and each packet was released, filtered or lost
abbrev pub RightRunsAreSettled : Type 0
RightRunsAreSettled =
    (setting : Setting) → IsSetting setting → (capture : Capture) (out : List ℕ) (journal : List Event)
    (report : List ℕ) → IsVerdict setting capture out journal report Yes → (packet : ℕ) → packet < count setting →
    (state_after setting (opening setting) journal).fate packet ≢ became.Inside
