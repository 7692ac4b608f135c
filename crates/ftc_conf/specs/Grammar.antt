-- Which chain a text spells, or the first fault of a text that spells none.
use Rattle.std.specs.Prelude.{ℕ, ◌+◌, Bool, true, false, not, ◌||◌, ◌==◌, nat_le, nat_lt, List, [], ◌∷◌, length, Option}
use Rattle.std.specs.Prelude.{Some, None, Result, Ok, Err, if◌then◌else◌, codes}
use Rattle.std.specs.List.{list_all}
use Rattle.std.specs.Str.{bytes_eq}
use Rattle.ftc_base.specs.Text.{words_of, lines_of}
use Rattle.ftc_base.specs.declared.limits.TheConstants.{MOST_SERVERS, MOST_FIREWALL_LINES}
use Rattle.ftc_firewall.specs.declared.rule.FirewallRule.{FirewallRule}
use Rattle.ftc_mbox.specs.Chain.{Chain}
use Rattle.ftc_mbox.specs.declared.rule.Rule.TheVariants as rule
use Rattle.ftc_conf.specs.declared.limits.TheConstants.{MOST_FAILURES}
use Rattle.ftc_conf.specs.declared.fault.ChainCause.{ChainCause}
use Rattle.ftc_conf.specs.declared.fault.ChainCause.TheVariants.{NotText, NoFailures, NoPartitions, UnknownWord}
use Rattle.ftc_conf.specs.declared.fault.ChainCause.TheVariants.{TooManyServers, TooManyItems, Replicas, Empty}
use Rattle.ftc_conf.specs.declared.fault.ChainCause.TheVariants.{SpareOrder}
use Rattle.ftc_conf.specs.declared.fault.ChainFault.{ChainFault}
use Rattle.ftc_conf.specs.declared.statement.Form.{Form}
use Rattle.ftc_conf.specs.declared.statement.Form.TheVariants as form
use Rattle.ftc_conf.specs.declared.statement.Statement.{Statement}
use Rattle.ftc_conf.specs.declared.statement.Statement.TheVariants as said
use Rattle.ftc_conf.specs.declared.draft.Failures.{Failures}
use Rattle.ftc_conf.specs.declared.draft.Draft.{Draft}
use Rattle.ftc_base.specs.Reading.{◌>>=◌, ◌>>◌, unless}
use Rattle.ftc_conf.specs.Words.{is_text_byte, is_comment}
use Rattle.ftc_conf.specs.Forms.{no_words, failures_of, partitions_of, monitor_of, nat_of, fire_line_of, balance_of}
use Rattle.ftc_conf.specs.Draft.{no_lines, servers, with_statement}

-- `allow` and `deny` are known only where a firewall stands directly before
abbrev pub fire_line_form : Option FirewallRule → Bool → Result Form ChainCause
fire_line_form None allow = Err UnknownWord
fire_line_form (Some firewall) allow = Ok (form.FireLine allow)

-- the form that the first word of a line of the middleboxes tells
abbrev pub form_of : Draft → List ℕ → Result Form ChainCause
form_of draft first =
    if bytes_eq first (codes "pass") then Ok form.Pass else
    if bytes_eq first (codes "monitor") then Ok form.Monitor else
    if bytes_eq first (codes "nat") then Ok form.Nat else
    if bytes_eq first (codes "firewall") then Ok form.Firewall else
    if bytes_eq first (codes "allow") then fire_line_form draft.firewall true else
    if bytes_eq first (codes "deny") then fire_line_form draft.firewall false else
    if bytes_eq first (codes "balance") then Ok form.Balance else
    if bytes_eq first (codes "spare") then Ok form.Spare else Err UnknownWord

-- room for one more server, or for one more line of the firewall
abbrev pub server_room : Draft → Result (Unit {0}) ChainCause
server_room draft = unless (nat_lt (length (servers draft)) MOST_SERVERS) TooManyServers

abbrev pub fire_line_room : Option FirewallRule → Result (Unit {0}) ChainCause
fire_line_room None = Ok tt
fire_line_room (Some firewall) = unless (nat_lt (length firewall.lines) MOST_FIREWALL_LINES) TooManyItems

-- a middlebox stands before all spare servers, and has room
abbrev pub middlebox_room : Draft → Result (Unit {0}) ChainCause
middlebox_room draft = unless (draft.spares == 0) SpareOrder >> server_room draft

abbrev pub room_for : Draft → Form → Result (Unit {0}) ChainCause
room_for draft form.Spare = server_room draft
room_for draft (form.FireLine allow) = fire_line_room draft.firewall
room_for draft other = middlebox_room draft

-- what a line of that form says, by the words behind the first
abbrev pub said_in : Form → List (List ℕ) → Result Statement ChainCause
said_in form.Pass words = no_words words >> Ok (said.Middlebox rule.Pass)
said_in form.Monitor words = monitor_of words >>= λ groups. Ok (said.Middlebox (rule.Monitor groups))
said_in form.Nat words = nat_of words >>= λ nat. Ok (said.Middlebox (rule.Nat nat))
said_in form.Firewall words = no_words words >> Ok said.Firewall
said_in (form.FireLine allow) words = fire_line_of allow words >>= λ line. Ok (said.FireLine line)
said_in form.Balance words = balance_of words >>= λ balance. Ok (said.Middlebox (rule.Balance balance))
said_in form.Spare words = no_words words >> Ok said.Spare

abbrev pub middlebox_line : Draft → List ℕ → List (List ℕ) → Result Statement ChainCause
middlebox_line draft first words = do
  found ← form_of draft first
  room_for draft found
  said_in found words

abbrev pub failures_line : List ℕ → List (List ℕ) → Result Statement ChainCause
failures_line first words =
    if bytes_eq first (codes "f") then (failures_of words >>= λ number. Ok (said.Failures number)) else Err NoFailures

abbrev pub partitions_line : List ℕ → List (List ℕ) → Result Statement ChainCause
partitions_line first words =
    if bytes_eq first (codes "partitions") then (partitions_of words >>= λ number. Ok (said.Partitions number))
    else Err NoPartitions

-- the first line with words is the failures line, the second the partitions line, and the others are the middleboxes
abbrev pub words_in : Option Failures → Option ℕ → Draft → List ℕ → List (List ℕ) → Result Statement ChainCause
words_in None partitions draft first words = failures_line first words
words_in (Some failures) None draft first words = partitions_line first words
words_in (Some failures) (Some partitions) draft first words = middlebox_line draft first words

-- a line without words and a comment say nothing, whatever else stands in them
abbrev pub line_in : Draft → Bool → List (List ℕ) → Result Statement ChainCause
line_in draft is_text [] = Ok said.Nothing
line_in draft is_text (first ∷ words) =
    if is_comment first then Ok said.Nothing else
    if not is_text then Err NotText else words_in draft.failures draft.partitions draft first words

-- what the next line says
abbrev pub statement_of : Draft → List ℕ → Result Statement ChainCause
statement_of draft line = line_in draft (list_all is_text_byte line) (words_of line)

-- the draft with one more line, which stands at that place
abbrev pub line_step : Draft → ℕ → List ℕ → Result Draft ChainCause
line_step draft place line = statement_of draft line >>= λ statement. Ok (with_statement draft place statement)

abbrev pub fault_at : {A : Type 0} → ℕ → ChainCause → Result A ChainFault
fault_at line cause = Err (record { line = line; cause = cause })

-- some server is no spare one, and fewer servers may be down at once than there are, and at most so many
abbrev pub complete_chain : ℕ → Failures → ℕ → Draft → ℕ → Result Chain ChainFault
complete_chain most failures partitions draft place =
    if nat_le (length (servers draft)) draft.spares then fault_at place Empty else
    if nat_le (length (servers draft)) failures.number || nat_lt most failures.number then
    fault_at failures.line Replicas else
    Ok (record { failures = failures.number; partitions = partitions; rules = servers draft })

-- the chain where no line is left; the place is behind the last line
abbrev pub finished : ℕ → Option Failures → Option ℕ → Draft → ℕ → Result Chain ChainFault
finished most None partitions draft place = fault_at place NoFailures
finished most (Some failures) None draft place = fault_at place NoPartitions
finished most (Some failures) (Some partitions) draft place = complete_chain most failures partitions draft place

abbrev pub finish : ℕ → Draft → ℕ → Result Chain ChainFault
finish most draft place = finished most draft.failures draft.partitions draft place

-- a cause becomes a fault at its line
abbrev pub placed : {A : Type 0} → ℕ → Result A ChainCause → Result A ChainFault
placed line (Ok value) = Ok value
placed line (Err cause) = fault_at line cause

-- the chain of the lines that are left, the first of which stands at that place
abbrev pub chain_from : ℕ → Result Draft ChainFault → ℕ → List (List ℕ) → Result Chain ChainFault
chain_from most (Err fault) place lines = Err fault
chain_from most (Ok draft) place [] = finish most draft place
chain_from most (Ok draft) place (line ∷ lines) =
    chain_from most (placed place (line_step draft place line)) (place + 1) lines

-- the chain that a text spells, of whose servers at most so many may be down at once, or its first fault
abbrev pub chain_within : ℕ → List ℕ → Result Chain ChainFault
chain_within most text = chain_from most (Ok no_lines) 1 (lines_of text)

-- the chain that a text spells, or its first fault; no line `f F` spells a number above this bound
abbrev pub chain_of : List ℕ → Result Chain ChainFault
chain_of text = chain_within MOST_FAILURES text
