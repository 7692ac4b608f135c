-- The events that a text spells, or its first fault.
use Rattle.std.specs.Prelude.{ℕ, ◌+◌, nat_lt, List, [], ◌∷◌, Option, Some, None, Result, Ok, Err, if◌then◌else◌, codes}
use Rattle.std.specs.Str.{bytes_eq}
use Rattle.ftc_base.specs.Reading.{◌>>=◌}
use Rattle.ftc_base.specs.Number.{number_of}
use Rattle.ftc_base.specs.Endpoint.{parts_of}
use Rattle.ftc_base.specs.declared.lexer.Lexical.{Lexical}
use Rattle.ftc_base.specs.declared.lexer.Lexical.TheVariants.{NotNumber, TooLarge, NotAddress}
use Rattle.ftc_base.specs.declared.limits.TheConstants.{MOST_SLOTS, MOST_NUMBER}
use Rattle.ftc_journal.specs.declared.event.Event.{Event}
use Rattle.ftc_journal.specs.declared.event.Event.TheVariants as event
use Rattle.ftc_journal.specs.declared.event.VisitName.{VisitName}
use Rattle.ftc_journal.specs.declared.fault.JournalCause.{JournalCause}
use Rattle.ftc_journal.specs.declared.fault.JournalCause.TheVariants.{Header, Word, Range, Cut}
use Rattle.ftc_journal.specs.declared.fault.JournalFault.{JournalFault}
use Rattle.ftc_journal.specs.declared.form.Version.{Version}
use Rattle.ftc_journal.specs.declared.form.Version.TheVariants as version
use Rattle.ftc_journal.specs.declared.form.Single.{Single}
use Rattle.ftc_journal.specs.declared.form.Single.TheVariants as single
use Rattle.ftc_journal.specs.declared.form.Double.{Double}
use Rattle.ftc_journal.specs.declared.form.Double.TheVariants as double
use Rattle.ftc_journal.specs.declared.form.Form.{Form}
use Rattle.ftc_journal.specs.declared.form.Form.TheVariants as form
use Rattle.ftc_journal.specs.declared.numerals.NameFigures.{NameFigures}
use Rattle.ftc_journal.specs.Spelling.{servers_of}

abbrev pub version_of : List ℕ → Option Version
version_of header =
    if bytes_eq header (codes "ftc-journal 1") then Some version.First else
    if bytes_eq header (codes "ftc-journal 2") then Some version.Second else None

-- the number that a word spells, or none where that number is too large
abbrev pub as_figure : Result ℕ Lexical → Result (Option ℕ) JournalCause
as_figure (Ok number) = Ok (Some number)
as_figure (Err TooLarge) = Ok None
as_figure (Err NotNumber) = Err Word
as_figure (Err NotAddress) = Err Word

abbrev pub figure_of : List ℕ → Result (Option ℕ) JournalCause
figure_of word = as_figure (number_of word MOST_NUMBER)

abbrev pub figures_of : List (List ℕ) → Result (List (Option ℕ)) JournalCause
figures_of [] = Ok []
figures_of (word ∷ words) = figure_of word >>= λ figure. figures_of words >>= λ figures. Ok (figure ∷ figures)

-- a visit, as `J:P`
abbrev pub name_of : List (List ℕ) → Result NameFigures JournalCause
name_of (first ∷ second ∷ []) = figure_of first >>= λ server. figure_of second >>= λ packet.
    Ok (record { server = server; packet = packet })
name_of parts = Err Word

abbrev pub names_of : List (List ℕ) → Result (List NameFigures) JournalCause
names_of [] = Ok []
names_of (word ∷ words) = name_of (parts_of 58 word) >>= λ name. names_of words >>= λ names. Ok (name ∷ names)

-- a number in its bounds
abbrev pub number_in : Option ℕ → Result ℕ JournalCause
number_in None = Err Range
number_in (Some number) = Ok number

abbrev pub below : ℕ → Option ℕ → Result ℕ JournalCause
below bound None = Err Range
below bound (Some number) = if nat_lt number bound then Ok number else Err Range

abbrev pub server_in : Version → Option ℕ → Result ℕ JournalCause
server_in version figure = below (servers_of version) figure

abbrev pub slot_in : Option ℕ → Result ℕ JournalCause
slot_in figure = below MOST_SLOTS figure

abbrev pub name_in : Version → NameFigures → Result VisitName JournalCause
name_in version name = server_in version name.server >>= λ server. number_in name.packet >>= λ packet.
    Ok (record { server = server; packet = packet })

abbrev pub undone_in : Version → List NameFigures → Result (List VisitName) JournalCause
undone_in version [] = Ok []
undone_in version (name ∷ names) = name_in version name >>= λ visit. undone_in version names >>= λ visits.
    Ok (visit ∷ visits)

-- which event the first word of a line tells
abbrev pub form_of : List ℕ → Option Form
form_of first =
    if bytes_eq first (codes "enter") then Some (form.Single single.Enter) else
    if bytes_eq first (codes "take") then Some (form.Double double.Take) else
    if bytes_eq first (codes "apply") then Some form.Apply else
    if bytes_eq first (codes "visit") then Some form.Visit else
    if bytes_eq first (codes "pass") then Some (form.Double double.Pass) else
    if bytes_eq first (codes "lose") then Some (form.Double double.Lose) else
    if bytes_eq first (codes "carry") then Some (form.Single single.Carry) else
    if bytes_eq first (codes "crash") then Some (form.Single single.Crash) else
    if bytes_eq first (codes "recover") then Some form.Recover else
    if bytes_eq first (codes "pull") then Some (form.Single single.Pull) else
    if bytes_eq first (codes "propagate") then Some (form.Single single.Propagate) else
    if bytes_eq first (codes "release") then Some (form.Single single.Release) else None

-- an event with one number, and one with a server or link and an origin
abbrev pub single_in : Version → Single → Option ℕ → Result Event JournalCause
single_in version single.Enter figure = number_in figure >>= λ packet. Ok (event.Enter packet)
single_in version single.Carry figure = number_in figure >>= λ origin. Ok (event.Carry origin)
single_in version single.Crash figure = server_in version figure >>= λ server. Ok (event.Crash server)
single_in version single.Pull figure = server_in version figure >>= λ link. Ok (event.Pull link)
single_in version single.Propagate figure = number_in figure >>= λ origin. Ok (event.Propagate origin)
single_in version single.Release figure = number_in figure >>= λ packet. Ok (event.Release packet)

abbrev pub double_event : Double → ℕ → ℕ → Event
double_event double.Take link origin = event.Take link origin
double_event double.Pass server origin = event.Pass server origin
double_event double.Lose server origin = event.Lose server origin

abbrev pub double_in : Version → Double → Option ℕ → Option ℕ → Result Event JournalCause
double_in version kind first second = server_in version first >>= λ server. number_in second >>= λ origin.
    Ok (double_event kind server origin)

abbrev pub visit_in : Version → Option ℕ → Option ℕ → Option ℕ → Result Event JournalCause
visit_in version first second third =
    server_in version first >>= λ server. number_in second >>= λ packet. slot_in third >>= λ worker.
    Ok (event.Visit server packet worker)

abbrev pub apply_in : Version → Option ℕ → Option ℕ → Option ℕ → Option ℕ → Result Event JournalCause
apply_in version first second third fourth =
    server_in version first >>= λ server. number_in second >>= λ origin. server_in version third >>= λ group.
    number_in fourth >>= λ packet. Ok (event.Apply server origin group packet)

-- a form has just so many numbers
abbrev pub single_of : Version → Single → List (Option ℕ) → Result Event JournalCause
single_of version kind (figure ∷ []) = single_in version kind figure
single_of version kind figures = Err Word

abbrev pub double_of : Version → Double → List (Option ℕ) → Result Event JournalCause
double_of version kind (first ∷ second ∷ []) = double_in version kind first second
double_of version kind figures = Err Word

abbrev pub visit_of : Version → List (Option ℕ) → Result Event JournalCause
visit_of version (first ∷ second ∷ third ∷ []) = visit_in version first second third
visit_of version figures = Err Word

abbrev pub apply_of : Version → List (Option ℕ) → Result Event JournalCause
apply_of version (first ∷ second ∷ third ∷ fourth ∷ []) = apply_in version first second third fourth
apply_of version figures = Err Word

abbrev pub recovery : Version → Option ℕ → List NameFigures → Result Event JournalCause
recovery version figure names = server_in version figure >>= λ server. undone_in version names >>= λ undone.
    Ok (event.Recover server undone)

-- a server, and then each undone visit
abbrev pub recover_of : Version → List (List ℕ) → Result Event JournalCause
recover_of version [] = Err Word
recover_of version (server ∷ names) = figure_of server >>= λ figure. names_of names >>= λ undone.
    recovery version figure undone

-- all words are tested before any bound
abbrev pub said_in : Version → Form → List (List ℕ) → Result Event JournalCause
said_in version (form.Single kind) words = figures_of words >>= λ figures. single_of version kind figures
said_in version (form.Double kind) words = figures_of words >>= λ figures. double_of version kind figures
said_in version form.Visit words = figures_of words >>= λ figures. visit_of version figures
said_in version form.Apply words = figures_of words >>= λ figures. apply_of version figures
said_in version form.Recover words = recover_of version words

abbrev pub said_by : Version → Option Form → List (List ℕ) → Result Event JournalCause
said_by version None words = Err Word
said_by version (Some form) words = said_in version form words

-- the event that the words of a line say
abbrev pub event_of : Version → List (List ℕ) → Result Event JournalCause
event_of version [] = Err Word
event_of version (first ∷ words) = said_by version (form_of first) words

abbrev pub fault_at : {A : Type 0} → ℕ → JournalCause → Result A JournalFault
fault_at line cause = Err (record { line = line; cause = cause })

abbrev pub placed : {A : Type 0} → ℕ → Result A JournalCause → Result A JournalFault
placed line (Ok value) = Ok value
placed line (Err cause) = fault_at line cause

-- nothing stands behind the last line feed
abbrev pub ended : ℕ → List ℕ → Result (List Event) JournalFault
ended place [] = Ok []
ended place (byte ∷ bytes) = fault_at place Cut

-- the events of what stands round the line feeds; the first line stands at that place
abbrev pub events_from : Version → ℕ → List (List ℕ) → Result (List Event) JournalFault
events_from version place [] = Ok []
events_from version place (last ∷ []) = ended place last
events_from version place (line ∷ next ∷ lines) =
    placed place (event_of version (parts_of 32 line)) >>= λ event.
    events_from version (place + 1) (next ∷ lines) >>= λ events. Ok (event ∷ events)

-- the lines behind the header
abbrev pub lines_behind : Option Version → List (List ℕ) → Result (List Event) JournalFault
lines_behind None lines = fault_at 1 Header
lines_behind (Some version) lines = events_from version 2 lines

-- a header has a line feed
abbrev pub journal_from : List (List ℕ) → Result (List Event) JournalFault
journal_from [] = fault_at 1 Header
journal_from (header ∷ []) = fault_at 1 Header
journal_from (header ∷ next ∷ lines) = lines_behind (version_of header) (next ∷ lines)

-- the events that a text spells, or its first fault
abbrev pub journal_of : List ℕ → Result (List Event) JournalFault
journal_of text = journal_from (parts_of 10 text)
