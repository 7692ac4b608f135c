-- The text of a journal: a header line, and a line for each event.
use Rattle.std.specs.Prelude.{ℕ, List, ◌++◌, decimal, codes}
use Rattle.std.specs.List.{flat_map}
use Rattle.ftc_journal.specs.declared.event.Event.{Event}
use Rattle.ftc_journal.specs.declared.event.Event.TheVariants.{Enter, Take, Apply, Visit, Pass, Lose, Carry, Crash}
use Rattle.ftc_journal.specs.declared.event.Event.TheVariants.{Recover, Pull, Propagate, Release}
use Rattle.ftc_journal.specs.declared.event.VisitName.{VisitName}

abbrev pub header : List ℕ
header = codes "ftc-journal 2\n"

-- a space and a number
abbrev pub spaced : ℕ → List ℕ
spaced number = codes " " ++ decimal number

-- a space and a visit, as `J:P`
abbrev pub spaced_name : VisitName → List ℕ
spaced_name name = codes " " ++ decimal name.server ++ codes ":" ++ decimal name.packet

-- the words of an event, one space between them
unfoldable pub words_of : Event → List ℕ
words_of (Enter packet) = codes "enter" ++ spaced packet
words_of (Take link origin) = codes "take" ++ spaced link ++ spaced origin
words_of (Apply server origin group packet) =
    codes "apply" ++ spaced server ++ spaced origin ++ spaced group ++ spaced packet
words_of (Visit server packet worker) = codes "visit" ++ spaced server ++ spaced packet ++ spaced worker
words_of (Pass server origin) = codes "pass" ++ spaced server ++ spaced origin
words_of (Lose server origin) = codes "lose" ++ spaced server ++ spaced origin
words_of (Carry origin) = codes "carry" ++ spaced origin
words_of (Crash server) = codes "crash" ++ spaced server
words_of (Recover server undone) = codes "recover" ++ spaced server ++ flat_map spaced_name undone
words_of (Pull link) = codes "pull" ++ spaced link
words_of (Propagate origin) = codes "propagate" ++ spaced origin
words_of (Release packet) = codes "release" ++ spaced packet

-- each line ends with a line feed
abbrev pub line_of : Event → List ℕ
line_of event = words_of event ++ codes "\n"

-- the text of these events
abbrev pub spelling : List Event → List ℕ
spelling events = header ++ flat_map line_of events
