-- The two spellings of a journal.
use Rattle.std.specs.Prelude.{◌≡◌, ℕ, ◌≤◌, ◌<◌, List, ◌∷◌, ◌++◌, codes}
use Rattle.std.specs.List.{AllByRecursion, flat_map}
use Rattle.ftc_base.specs.declared.limits.TheConstants.{MOST_SERVERS, MOST_SLOTS, MOST_NUMBER}
use Rattle.ftc_journal.specs.declared.limits.TheConstants.{FIRST_SERVERS}
use Rattle.ftc_journal.specs.declared.event.Event.{Event}
use Rattle.ftc_journal.specs.declared.event.Event.TheVariants.{Enter, Take, Apply, Visit, Pass, Lose, Carry, Crash}
use Rattle.ftc_journal.specs.declared.event.Event.TheVariants.{Recover, Pull, Propagate, Release}
use Rattle.ftc_journal.specs.declared.event.VisitName.{VisitName}
use Rattle.ftc_journal.specs.declared.form.Version.{Version}
use Rattle.ftc_journal.specs.declared.form.Version.TheVariants.{First, Second}
use Rattle.ftc_journal.specs.Text.{line_of}

-- the first line, without its line feed
abbrev pub header_of : Version → List ℕ
header_of First = codes "ftc-journal 1"
header_of Second = codes "ftc-journal 2"

-- servers, groups and links are below this number
abbrev pub servers_of : Version → ℕ
servers_of First = FIRST_SERVERS
servers_of Second = MOST_SERVERS

abbrev pub IsVisitName : Version → VisitName → Type 0
IsVisitName version name = (name.server < servers_of version) × (name.packet ≤ MOST_NUMBER)

-- the numbers of an event are in the bounds of a version
abbrev pub IsEvent : Version → Event → Type 0
IsEvent version (Enter packet) = packet ≤ MOST_NUMBER
IsEvent version (Take link origin) = (link < servers_of version) × (origin ≤ MOST_NUMBER)
IsEvent version (Apply server origin group packet) =
    (server < servers_of version) × (origin ≤ MOST_NUMBER) × (group < servers_of version) × (packet ≤ MOST_NUMBER)
IsEvent version (Visit server packet worker) =
    (server < servers_of version) × (packet ≤ MOST_NUMBER) × (worker < MOST_SLOTS)
IsEvent version (Pass server origin) = (server < servers_of version) × (origin ≤ MOST_NUMBER)
IsEvent version (Lose server origin) = (server < servers_of version) × (origin ≤ MOST_NUMBER)
IsEvent version (Carry origin) = origin ≤ MOST_NUMBER
IsEvent version (Crash server) = server < servers_of version
IsEvent version (Recover server undone) = (server < servers_of version) × AllByRecursion (IsVisitName version) undone
IsEvent version (Pull link) = link < servers_of version
IsEvent version (Propagate origin) = origin ≤ MOST_NUMBER
IsEvent version (Release packet) = packet ≤ MOST_NUMBER

-- the header's line, and a line for each event
abbrev pub spelling_in : Version → List Event → List ℕ
spelling_in version events = header_of version ++ 10 ∷ flat_map line_of events

-- the text is a spelling of these events in one of the two versions
pub record IsSpelling (events : List Event) (text : List ℕ) : Type 0 where
  pub version : Version
  pub bounds : AllByRecursion (IsEvent version) events
  pub spelled : text ≡ spelling_in version events
