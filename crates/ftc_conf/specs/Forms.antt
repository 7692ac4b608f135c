-- The forms of lines, each with its tests from left to right.
use Rattle.std.specs.Prelude.{ℕ, Bool, not, nat_le, List, [], ◌∷◌, ◌++◌, length, Option, Some, None, Result, Ok, Err}
use Rattle.std.specs.Prelude.{if◌then◌else◌, codes}
use Rattle.std.specs.Str.{bytes_eq}
use Rattle.ftc_base.specs.Endpoint.{parts_of, contains}
use Rattle.ftc_base.specs.declared.limits.TheConstants.{MOST_PARTITIONS, MOST_MONITOR_GROUPS, MOST_BACKENDS}
use Rattle.ftc_nat.specs.declared.rule.NatRule.{NatRule}
use Rattle.ftc_firewall.specs.declared.rule.FireLine.{FireLine}
use Rattle.ftc_balance.specs.declared.rule.BalanceRule.{BalanceRule}
use Rattle.ftc_conf.specs.declared.limits.TheConstants.{MOST_FAILURES, MOST_PORT}
use Rattle.ftc_conf.specs.declared.fault.ChainCause.{ChainCause}
use Rattle.ftc_conf.specs.declared.fault.ChainCause.TheVariants.{UnknownWord, WordCount, BadRange, TooManyItems}
use Rattle.ftc_base.specs.Reading.{◌>>=◌, ◌>>◌, unless}
use Rattle.ftc_conf.specs.Words.{fixed, number_from_to, address_word, net_word, part_before, part_behind, dashed_ports}
use Rattle.ftc_conf.specs.Words.{ports_word}

-- each form speaks of the words behind the first word of its line

-- `pass`, `firewall` and `spare` have no further word
abbrev pub no_words : List (List ℕ) → Result (Unit {0}) ChainCause
no_words [] = Ok tt
no_words (word ∷ words) = Err WordCount

-- `f F`
abbrev pub failures_of : List (List ℕ) → Result ℕ ChainCause
failures_of (failures ∷ []) = number_from_to 0 MOST_FAILURES failures
failures_of words = Err WordCount

-- `partitions P`
abbrev pub partitions_of : List (List ℕ) → Result ℕ ChainCause
partitions_of (partitions ∷ []) = number_from_to 1 MOST_PARTITIONS partitions
partitions_of words = Err WordCount

-- `monitor G`
abbrev pub monitor_of : List (List ℕ) → Result ℕ ChainCause
monitor_of (groups ∷ []) = number_from_to 1 MOST_MONITOR_GROUPS groups
monitor_of words = Err WordCount

-- `nat inside NET outside ADDRESS ports A-B`
abbrev pub nat_of : List (List ℕ) → Result NatRule ChainCause
nat_of (inside_here ∷ net ∷ outside_here ∷ address ∷ ports_here ∷ ports ∷ []) = do
  fixed (codes "inside") inside_here
  inside ← net_word net
  fixed (codes "outside") outside_here
  outside ← address_word address
  unless (not (contains inside outside)) BadRange
  fixed (codes "ports") ports_here
  range ← dashed_ports 1 ports
  Ok (record { inside = inside; outside = outside; first = range.first; last = range.last })
nat_of words = Err WordCount

-- `tcp`, `udp`, or `any` for both of them
abbrev pub protocol_of : List ℕ → Result (Option ℕ) ChainCause
protocol_of word =
    if bytes_eq word (codes "tcp") then Ok (Some 6) else
    if bytes_eq word (codes "udp") then Ok (Some 17) else
    if bytes_eq word (codes "any") then Ok None else Err UnknownWord

-- `allow PROTOCOL NET NET PORTS`, and the same with `deny`
abbrev pub fire_line_of : Bool → List (List ℕ) → Result FireLine ChainCause
fire_line_of allow (protocol_word ∷ source_word ∷ destination_word ∷ ports ∷ []) = do
  protocol ← protocol_of protocol_word
  source ← net_word source_word
  destination ← net_word destination_word
  range ← ports_word ports
  Ok (record {
    allow = allow;
    protocol = protocol;
    source = source;
    destination = destination;
    low = range.first;
    high = range.last;
  })
fire_line_of allow words = Err WordCount

-- one more address of the list of backends
abbrev pub with_backend : List ℕ → List ℕ → Result (List ℕ) ChainCause
with_backend backends part = do
  unless (not (nat_le MOST_BACKENDS (length backends))) TooManyItems
  backend ← address_word part
  Ok (backends ++ backend ∷ [])

abbrev pub with_backends : List ℕ → List (List ℕ) → Result (List ℕ) ChainCause
with_backends backends [] = Ok backends
with_backends backends (part ∷ parts) = with_backend backends part >>= λ more. with_backends more parts

-- addresses with commas between them
abbrev pub backends_of : List ℕ → Result (List ℕ) ChainCause
backends_of word = with_backends [] (parts_of 44 word)

-- `balance ADDRESS:PORT to ADDRESS,ADDRESS`
abbrev pub balance_of : List (List ℕ) → Result BalanceRule ChainCause
balance_of (endpoint ∷ to_here ∷ list ∷ []) = do
  address ← address_word (part_before 58 endpoint)
  port ← number_from_to 0 MOST_PORT (part_behind 58 endpoint)
  fixed (codes "to") to_here
  backends ← backends_of list
  Ok (record { address = address; port = port; backends = backends })
balance_of words = Err WordCount
