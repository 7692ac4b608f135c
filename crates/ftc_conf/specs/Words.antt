-- What one word of a chain text says, and which cause it has where it says nothing.
use Rattle.std.specs.Prelude.{ℕ, ◌≤◌, Bool, ◌&&◌, ◌||◌, ◌==◌, nat_le, List, Result, Ok, Err}
use Rattle.std.specs.Prelude.{if◌then◌else◌, codes}
use Rattle.std.specs.List.{before_first, after_first, list_any}
use Rattle.std.specs.Str.{bytes_eq}
pub use Rattle.ftc_base.specs.Comment.{is_comment}
use Rattle.ftc_base.specs.Reading.{◌>>=◌, ◌>>◌, unless}
use Rattle.ftc_base.specs.Number.{number_of}
use Rattle.ftc_base.specs.Endpoint.{address_of, net_of}
use Rattle.ftc_base.specs.declared.lexer.Lexical.{Lexical}
use Rattle.ftc_base.specs.declared.network.Net.{Net}
use Rattle.ftc_base.specs.declared.limits.TheConstants.{MOST_NUMBER}
use Rattle.ftc_conf.specs.declared.limits.TheConstants.{MOST_PORT}
use Rattle.ftc_conf.specs.declared.fault.ChainCause.{ChainCause}
use Rattle.ftc_conf.specs.declared.fault.ChainCause.TheVariants.{UnknownWord, BadNumber, BadAddress, BadRange}
use Rattle.ftc_conf.specs.declared.ports.PortRange.{PortRange}

-- the bytes of lines that say something: those that can be seen, space, tab and carriage return
abbrev pub is_text_byte : ℕ → Bool
is_text_byte byte = (nat_le 32 byte && nat_le byte 126) || byte == 9 || byte == 13

-- a word that has to stand just so
abbrev pub fixed : List ℕ → List ℕ → Result (Unit {0}) ChainCause
fixed text word = unless (bytes_eq word text) UnknownWord

abbrev pub as_number : Result ℕ Lexical → Result ℕ ChainCause
as_number (Ok value) = Ok value
as_number (Err fault) = Err BadNumber

-- a number without a bound of its own
abbrev pub number_word : List ℕ → Result ℕ ChainCause
number_word word = as_number (number_of word MOST_NUMBER)

-- a number from `least` to `most`
abbrev pub number_from_to : ℕ → ℕ → List ℕ → Result ℕ ChainCause
number_from_to least most word = do
  value ← number_word word
  unless (nat_le least value && nat_le value most) BadRange
  Ok value

abbrev pub as_address : {A : Type 0} → Result A Lexical → Result A ChainCause
as_address (Ok value) = Ok value
as_address (Err fault) = Err BadAddress

-- an address has 32 bits
abbrev pub IsAddress : ℕ → Type 0
IsAddress address = address ≤ MOST_NUMBER

abbrev pub address_word : List ℕ → Result ℕ ChainCause
address_word word = as_address (address_of word)

abbrev pub net_word : List ℕ → Result Net ChainCause
net_word word = as_address (net_of word)

-- what stands before the first separator, and what stands behind it: nothing, where there is none
abbrev pub part_before : ℕ → List ℕ → List ℕ
part_before separator word = before_first (λ byte. byte == separator) word

abbrev pub part_behind : ℕ → List ℕ → List ℕ
part_behind separator word = after_first (λ byte. byte == separator) word

abbrev pub has_byte : ℕ → List ℕ → Bool
has_byte byte word = list_any (λ other. other == byte) word

-- ports from the first to the last: least ≤ first at the first, first ≤ last ≤ 65535 at the last
abbrev pub ports_between : ℕ → List ℕ → List ℕ → Result PortRange ChainCause
ports_between least first_word last_word = do
  first ← number_word first_word
  unless (nat_le least first) BadRange
  last ← number_from_to first MOST_PORT last_word
  Ok (record { first = first; last = last })

-- the ports `A-B`
abbrev pub dashed_ports : ℕ → List ℕ → Result PortRange ChainCause
dashed_ports least word = ports_between least (part_before 45 word) (part_behind 45 word)

-- all ports, one port, or the ports `A-B`
abbrev pub ports_word : List ℕ → Result PortRange ChainCause
ports_word word =
    if bytes_eq word (codes "any") then Ok (record { first = 0; last = MOST_PORT }) else
    if has_byte 45 word then dashed_ports 0 word else ports_between 0 word word
