-- The commands, the form of the words of each, and the command that words are.
use Rattle.std.specs.Prelude.{ℕ, ◌≤◌, ◌<◌, ◌-◌, Bool, true, false, not, ◌&&◌, ◌||◌, ◌++◌, List, [], ◌∷◌, Option, Some}
use Rattle.std.specs.Prelude.{None, Ok, Err, codes, if◌then◌else◌, option_and_then, option_map, nat_le}
use Rattle.std.specs.List.{list_any}
use Rattle.std.specs.Str.{bytes_eq}
use Rattle.ftc_base.specs.Number.{number_of}
use Rattle.ftc_base.specs.declared.limits.TheConstants.{MOST_NUMBER, MOST_RECORDS, MOST_SERVERS, MOST_THREADS}
use Rattle.ftc_words.specs.Given.{Given, given_in}
use Rattle.ftc_words.specs.declared.limits.TheConstants.{MOST_MISSED}

-- the names of the files of a run
pub record Named : Type 0 where
  pub chain : List ℕ
  pub script : List ℕ
  pub capture : List ℕ
  pub out : List ℕ
  pub journal : List ℕ
  pub report : List ℕ

-- how a chain is run: without an option, by so many workers, or by a schedule on one thread, maybe with a planned move
pub data Mode : Type 0 where
  plain : Mode
  workers : ℕ → Mode
  alone : List ℕ → Option (ℕ × List ℕ) → Mode

pub data Command : Type 0 where
  run : Named → Mode → Command
  make : ℕ → ℕ → List ℕ → Command
  check : Named → Command
  ports : List ℕ → List ℕ → List ℕ → ℕ → Command
  watch : ℕ → List ℕ → List ℕ → List ℕ → List ℕ → Command

-- ---- what words are at their places

-- a name, or a number from the least to the greatest
pub data Place : Type 0 where
  name : Place
  number : ℕ → ℕ → Place

-- the numbers and the names at the places of a command, in order
pub record Read : Type 0 where
  pub numbers : List ℕ
  pub names : List (List ℕ)

abbrev pub with_name : List ℕ → Read → Read
with_name word read = record read { names = word ∷ read.names }

abbrev pub with_number : ℕ → Read → Read
with_number value read = record read { numbers = value ∷ read.numbers }

abbrev pub number_in : ℕ → ℕ → List ℕ → Option ℕ
number_in least most word = elim (number_of word most) [
  | Ok value ↦ if nat_le least value then Some value else None
  | Err fault ↦ None
]

abbrev pub read_at : List Place → List (List ℕ) → Option Read
read_at [] [] = Some (record { numbers = []; names = [] })
read_at [] (word ∷ words) = None
read_at (place ∷ places) [] = None
read_at (name ∷ places) (word ∷ words) = option_map (with_name word) (read_at places words)
read_at (number least most ∷ places) (word ∷ words) =
    option_and_then (λ value. option_map (with_number value) (read_at places words)) (number_in least most word)

-- ---- the options

-- a move is planned for a server that a chain may have
abbrev pub move_of : Option (List ℕ × List ℕ) → Option (Option (ℕ × List ℕ))
move_of None = Some None
move_of (Some (word, file)) = option_map (λ server. Some (server, file)) (number_in 0 (MOST_SERVERS - 1) word)

-- of `--workers` and `--alone` there is at most one, and `--move` stands beside `--alone` alone; there is at least one
-- worker
abbrev pub mode_from : Option (List ℕ) → Option (List ℕ) → Option (List ℕ × List ℕ) → Option Mode
mode_from None None None = Some plain
mode_from None None (Some moved) = None
mode_from None (Some schedule) moved = option_map (alone schedule) (move_of moved)
mode_from (Some count) None None = option_map workers (number_in 1 MOST_THREADS count)
mode_from (Some count) None (Some moved) = None
mode_from (Some count) (Some schedule) moved = None

abbrev pub mode_of : Given → Option Mode
mode_of given = mode_from given.workers given.schedule given.moved

abbrev pub is_plain : Mode → Bool
is_plain plain = true
is_plain other = false

-- the names that options give
abbrev pub names_of : Mode → List (List ℕ)
names_of plain = []
names_of (workers count) = []
names_of (alone schedule None) = schedule ∷ []
names_of (alone schedule (Some (server, file))) = schedule ∷ file ∷ []

-- ---- the forms

-- a command's own word, what each of its other words is, whether it may have options, and the command that they make
pub record Form : Type 0 where
  pub word : List ℕ
  pub places : List Place
  pub has_options : Bool
  pub made : List ℕ → List (List ℕ) → Mode → Option Command

abbrev pub six_names : List Place
six_names = name ∷ name ∷ name ∷ name ∷ name ∷ name ∷ []

abbrev pub named : List (List ℕ) → Option Named
named (chain ∷ script ∷ capture ∷ out ∷ journal ∷ report ∷ []) =
    Some (record { chain = chain; script = script; capture = capture; out = out; journal = journal; report = report })
named _ = None

abbrev pub run_made : List ℕ → List (List ℕ) → Mode → Option Command
run_made [] names mode = option_map (λ six. run six mode) (named names)
run_made _ _ _ = None

abbrev pub check_made : List ℕ → List (List ℕ) → Mode → Option Command
check_made [] names mode = option_map check (named names)
check_made _ _ _ = None

abbrev pub make_made : List ℕ → List (List ℕ) → Mode → Option Command
make_made (packets ∷ seed ∷ []) (capture ∷ []) mode = Some (make packets seed capture)
make_made _ _ _ = None

abbrev pub ports_made : List ℕ → List (List ℕ) → Mode → Option Command
ports_made (server ∷ []) (chain ∷ capture ∷ journal ∷ []) mode = Some (ports chain capture journal server)
ports_made _ _ _ = None

abbrev pub watch_made : List ℕ → List (List ℕ) → Mode → Option Command
watch_made (limit ∷ []) (chain ∷ capture ∷ beats ∷ script ∷ []) mode = Some (watch limit chain capture beats script)
watch_made _ _ _ = None

-- run CHAIN SCRIPT CAPTURE OUT JOURNAL REPORT, the only one with options
abbrev pub run_form : Form
run_form = record { word = codes "run"; places = six_names; has_options = true; made = run_made }

-- check CHAIN SCRIPT CAPTURE OUT JOURNAL REPORT
abbrev pub check_form : Form
check_form = record { word = codes "check"; places = six_names; has_options = false; made = check_made }

-- make N SEED CAPTURE
abbrev pub make_form : Form
make_form = record {
  word = codes "make";
  places = number 1 MOST_RECORDS ∷ number 0 MOST_NUMBER ∷ name ∷ [];
  has_options = false;
  made = make_made;
}

-- ports CHAIN CAPTURE JOURNAL K
abbrev pub ports_form : Form
ports_form = record {
  word = codes "ports";
  places = name ∷ name ∷ name ∷ number 0 (MOST_SERVERS - 1) ∷ [];
  has_options = false;
  made = ports_made;
}

-- watch LIMIT CHAIN CAPTURE BEATS SCRIPT
abbrev pub watch_form : Form
watch_form = record {
  word = codes "watch";
  places = number 1 MOST_MISSED ∷ name ∷ name ∷ name ∷ name ∷ [];
  has_options = false;
  made = watch_made;
}

abbrev pub forms : List Form
forms = run_form ∷ check_form ∷ make_form ∷ ports_form ∷ watch_form ∷ []

-- ---- the files of a command

abbrev pub six_of : Named → List (List ℕ)
six_of names = names.chain ∷ names.script ∷ names.capture ∷ names.out ∷ names.journal ∷ names.report ∷ []

-- the names that a command is given
abbrev pub files_of : Command → List (List ℕ)
files_of (run names mode) = names_of mode ++ six_of names
files_of (make packets seed capture) = capture ∷ []
files_of (check names) = six_of names
files_of (ports chain capture journal server) = chain ∷ capture ∷ journal ∷ []
files_of (watch limit chain capture beats script) = chain ∷ capture ∷ beats ∷ script ∷ []

-- the names among its words that aren't the values of options
abbrev pub named_by : Command → List (List ℕ)
named_by (run names mode) = six_of names
named_by other = files_of other

-- where workers run, there is at least one and no more than there may be
abbrev pub AreWorkers : Mode → Type 0
AreWorkers (workers count) = (1 ≤ count) × (count ≤ MOST_THREADS)
AreWorkers other = Unit {0}

-- its numbers lie in their bounds
abbrev pub IsWithin : Command → Type 0
IsWithin (run names mode) = AreWorkers mode
IsWithin (make packets seed capture) = (1 ≤ packets) × (packets ≤ MOST_RECORDS) × (seed ≤ MOST_NUMBER)
IsWithin (ports chain capture journal server) = server < MOST_SERVERS
IsWithin (watch limit chain capture beats script) = (1 ≤ limit) × (limit ≤ MOST_MISSED)
IsWithin other = Unit {0}

-- ---- the command that words are

abbrev pub are_distinct : List (List ℕ) → Bool
are_distinct [] = true
are_distinct (word ∷ words) = not (list_any (bytes_eq word) words) && are_distinct words

-- the command of that form; all names are different
abbrev pub of_form : Form → Mode → List (List ℕ) → Option Command
of_form form mode words =
    if form.has_options || is_plain mode
    then option_and_then (λ read. if are_distinct (names_of mode ++ read.names) then
    form.made read.numbers read.names mode else None) (read_at form.places words)
    else None

abbrev pub of_word : List Form → List ℕ → Mode → List (List ℕ) → Option Command
of_word [] word mode words = None
of_word (form ∷ more) word mode words =
    if bytes_eq word form.word then of_form form mode words else of_word more word mode words

-- the command that words are, whether it is built or not
abbrev pub spelled : List (List ℕ) → Option Command
spelled [] = None
spelled (word ∷ words) =
    option_and_then (λ given. option_and_then (λ mode. of_word forms word mode given.plain) (mode_of given))
    (given_in words)

-- the commands that the program has
abbrev pub is_built : Command → Bool
is_built (run names plain) = true
is_built (run names (workers count)) = true
is_built (run names (alone schedule None)) = true
is_built (make packets seed capture) = true
is_built (check names) = true
is_built (ports chain capture journal server) = true
is_built (watch limit chain capture beats script) = true
is_built other = false

abbrev pub command_of : List (List ℕ) → Option Command
command_of words = option_and_then (λ command. if is_built command then Some command else None) (spelled words)
