-- Packets of bytes stay packets of bytes.
use Rattle.std.proofs.Common.{◌≡◌, ◌≤◌, ◌<◌, refl, ap, subst, ℕ, zero, suc, ◌+◌, ◌/◌, ◌%◌, ◌==◌, Bool, true, false}
use Rattle.std.proofs.Common.{List, [], ◌∷◌, length, take, drop, Option, Some, None, arith, MatchOption, eqb-true}
use Rattle.std.specs.Prelude.{slice_index, slice_set, nat_lt, unwrap_or, if◌then◌else◌, IfSome, ◌&&◌}
use Rattle.std.specs.Int.{w16, w32, w64, to_be_bytes, from_be_bytes}
use Rattle.std.specs.List.{AllByRecursion, list_any}
use Rattle.std.proofs.lemmas.Bool.Decides.{nat_tests}
use Rattle.ftc_base.specs.declared.ask.Answer.{Answer}
use Rattle.ftc_base.specs.declared.ask.Ask.{Ask}
use Rattle.ftc_base.specs.declared.ask.Ask.TheVariants.{Read, Finish}
use Rattle.ftc_base.specs.declared.ask.Change.{Change}
use Rattle.ftc_base.specs.declared.ask.Change.TheVariants.{Keep, Source, Destination}
use Rattle.ftc_base.specs.declared.ask.Verdict.{Verdict}
use Rattle.ftc_base.specs.declared.ask.Verdict.TheVariants.{Forward, Filter}
use Rattle.ftc_base.specs.declared.ask.Write.{Write}
use Rattle.ftc_base.specs.Ask.{number_in, filter_out, forward_changed}
use Rattle.ftc_base.specs.Endpoint.{endpoint}
use Rattle.ftc_packet.specs.declared.flow.Flow.{Flow}
use Rattle.ftc_packet.specs.Layout.{AreBytes, word_at, with_word, protocol_of, transport_start, checksum_place}
use Rattle.ftc_packet.specs.Flow.{IsFlow, flow_in, flow_found}
use Rattle.ftc_packet.specs.Rewrite.{with_end, new_header_checksum, new_transport_checksum, written_checksum}
use Rattle.ftc_packet.specs.Rewrite.{updated_for_address, address_place, port_place}
use Rattle.ftc_packet.specs.Sum.{updated_checksum}
use Rattle.ftc_nat.specs.declared.rule.NatRule.{NatRule}
use Rattle.ftc_nat.specs.Bounds.{IsNatRule}
use Rattle.ftc_nat.specs.Nat.{leaves, outgoing, incoming, unknown, drawing, to_inside, nat_ask}
use Rattle.ftc_nat.specs.Nat as nat
use Rattle.ftc_firewall.specs.declared.rule.FirewallRule.{FirewallRule}
use Rattle.ftc_firewall.specs.Firewall.{is_allowed, firewall_ask}
use Rattle.ftc_firewall.specs.Firewall as firewall
use Rattle.ftc_balance.specs.declared.rule.BalanceRule.{BalanceRule}
use Rattle.ftc_balance.specs.Bounds.{IsBalanceRule}
use Rattle.ftc_balance.specs.Balance.{from_client, from_backend, replied, balance_ask}
use Rattle.ftc_balance.specs.Balance as balance
use Rattle.ftc_mbox.specs.declared.rule.Rule.{Rule}
use Rattle.ftc_mbox.specs.declared.rule.Rule.TheVariants.{Pass, Monitor, Nat, Firewall, Balance}
use Rattle.ftc_mbox.specs.Bounds.{IsRule}
use Rattle.ftc_mbox.specs.Ask.{ask, ask_of, ask_of_flow}
use Rattle.ftc_mbox.specs.Monitor.{monitor_ask}
use Rattle.ftc_packet.proofs.Numbers.{updated_checksum_most}
use Rattle.ftc_packet.proofs.FlowsFound.{flows_are_found}
use Rattle.ftc_packet.proofs.RightSums.{word_most}

byte_set : (xs : List ℕ) (at value k : ℕ) → value < 256 → AreBytes xs → slice_index (slice_set xs at value) k < 256
byte_set [] at value k few are = are k
byte_set (x ∷ xs) zero value zero few are = few
byte_set (x ∷ xs) zero value (suc k) few are = are (suc k)
byte_set (x ∷ xs) (suc at) value zero few are = are zero
byte_set (x ∷ xs) (suc at) value (suc k) few are = byte_set xs at value k few (λ j. are (suc j))

word_set : (bytes : List ℕ) (at word : ℕ) → word ≤ 65535 → AreBytes bytes → AreBytes (with_word bytes at word)
unfolding with_word
word_set bytes at word few are = λ k. byte_set _ (at + 1) (word % 256) k (omega arith) (λ j. byte_set bytes at
    (word / 256) j (omega arith) are)

address_checksum_fits : (checksum : ℕ) (bytes : List ℕ) (at address : ℕ) → checksum ≤ 65535
    → updated_for_address checksum bytes at address ≤ 65535
address_checksum_fits checksum bytes at address few =
    updated_checksum_most _ (word_at bytes (at + 2)) (address % 65536) (updated_checksum_most checksum
    (word_at bytes at) (address / 65536) few)

written_fits : (protocol before after : ℕ) → after ≤ 65535 → written_checksum protocol before after ≤ 65535
written_fits protocol before after few =
    elim (protocol == 17 && before == 0) as (λ t.
    (if t then 0 else if protocol == 17 && after == 0 then 0xffff else after) ≤ 65535) [
      | true ↦ omega arith
      | false ↦ elim (protocol == 17 && after == 0) as (λ t.
          (if t then 0xffff else after) ≤ 65535) [ true ↦ omega arith | false ↦ few ]
    ]

header_checksum_fits : (bytes : List ℕ) (end : _) (address : ℕ) → AreBytes bytes
    → new_header_checksum bytes end address ≤ 65535
unfolding new_header_checksum
header_checksum_fits bytes end address are = address_checksum_fits _ bytes _ address (word_most bytes _ are)

transport_checksum_fits : (bytes : List ℕ) (end : _) (address port : ℕ) → AreBytes bytes
    → new_transport_checksum bytes end address port ≤ 65535
unfolding new_transport_checksum
transport_checksum_fits bytes end address port are =
    let at = transport_start bytes + checksum_place (protocol_of bytes) in
    let before = word_at bytes at in
    let addressed = updated_for_address before bytes (address_place end) address in
    let ported = word_at bytes (transport_start bytes + port_place end) in
    written_fits (protocol_of bytes) before (updated_checksum addressed ported port)
    (updated_checksum_most addressed ported port (address_checksum_fits before bytes (address_place end) address
    (word_most bytes at are)))

-- a packet with another end
pub end_set : (bytes : List ℕ) (end : _) (address port : ℕ) → address ≤ 4294967295 → port ≤ 65535 → AreBytes bytes
    → AreBytes (with_end bytes end address port)
unfolding with_end
end_set bytes end address port few least are =
    word_set _ _ _ (transport_checksum_fits bytes end address port are)
    (word_set _ _ port least
    (word_set _ _ _ (header_checksum_fits bytes end address are)
    (word_set _ _ (address % 65536) (omega arith) (word_set bytes _ (address / 65536) (omega arith) are))))

-- ---- what a rule's end may say

abbrev pub FitsChange : Change → Type 0
FitsChange Keep = Unit {0}
FitsChange (Source address port) = (address ≤ 4294967295) × (port ≤ 65535)
FitsChange (Destination address port) = (address ≤ 4294967295) × (port ≤ 65535)

abbrev pub FitsVerdict : Verdict → Type 0
FitsVerdict (Forward change) = FitsChange change
FitsVerdict Filter = Unit {0}

abbrev pub IsValue : Option (List ℕ) → Type 0
IsValue value = IfSome value AreBytes

abbrev pub AreValues : List Write → Type 0
AreValues writes = AllByRecursion (λ (write : Write). IsValue write.value) writes

abbrev pub AreAnswers : List Answer → Type 0
AreAnswers answers = AllByRecursion (λ (answer : Answer). IsValue answer.value) answers

abbrev pub FitsAsk : Ask → Type 0
FitsAsk (Read key change) = Unit {0}
FitsAsk (Finish end) = FitsVerdict end.verdict × AreValues end.writes.items

bytes_2 : (n : ℕ) → AreBytes (to_be_bytes w16 n)
bytes_2 n zero = omega arith
bytes_2 n (suc zero) = omega arith
bytes_2 n (suc (suc k)) = omega arith

bytes_4 : (n : ℕ) → AreBytes (to_be_bytes w32 n)
bytes_4 n zero = omega arith
bytes_4 n (suc zero) = omega arith
bytes_4 n (suc (suc zero)) = omega arith
bytes_4 n (suc (suc (suc zero))) = omega arith
bytes_4 n (suc (suc (suc (suc k)))) = omega arith

bytes_8 : (n : ℕ) → AreBytes (to_be_bytes w64 n)
bytes_8 n zero = omega arith
bytes_8 n (suc zero) = omega arith
bytes_8 n (suc (suc zero)) = omega arith
bytes_8 n (suc (suc (suc zero))) = omega arith
bytes_8 n (suc (suc (suc (suc zero)))) = omega arith
bytes_8 n (suc (suc (suc (suc (suc zero))))) = omega arith
bytes_8 n (suc (suc (suc (suc (suc (suc zero)))))) = omega arith
bytes_8 n (suc (suc (suc (suc (suc (suc (suc zero))))))) = omega arith
bytes_8 n (suc (suc (suc (suc (suc (suc (suc (suc k)))))))) = omega arith

bytes_6 : (address port : ℕ) → AreBytes (endpoint address port)
bytes_6 address port zero = omega arith
bytes_6 address port (suc zero) = omega arith
bytes_6 address port (suc (suc zero)) = omega arith
bytes_6 address port (suc (suc (suc zero))) = omega arith
bytes_6 address port (suc (suc (suc (suc zero)))) = omega arith
bytes_6 address port (suc (suc (suc (suc (suc zero))))) = omega arith
bytes_6 address port (suc (suc (suc (suc (suc (suc k)))))) = omega arith

-- a number of 16 and of 32 bits from a value
number_2 : (value : Option (List ℕ)) → IsValue value → IfSome (number_in w16 value) (λ n. n ≤ 65535)
number_2 None is = tt
number_2 (Some []) is = tt
number_2 (Some (a ∷ [])) is = tt
number_2 (Some (a ∷ b ∷ [])) is = omega (arith, is 0, is 1)
number_2 (Some (a ∷ b ∷ c ∷ more)) is =
    let long = a ∷ b ∷ c ∷ more in
    elim (length long == 2) as (λ t. (length long == 2) ≡ t → IfSome (if t then Some
    (from_be_bytes w16 long) else None) (λ n. n ≤ 65535)) [
      | true ↦ λ same. absurd (omega (arith, eqb-true (length long) 2 same))
      | false ↦ λ _. tt
    ] refl

number_4 : (value : Option (List ℕ)) → IsValue value → IfSome (number_in w32 value) (λ n. n ≤ 4294967295)
number_4 None is = tt
number_4 (Some []) is = tt
number_4 (Some (a ∷ [])) is = tt
number_4 (Some (a ∷ b ∷ [])) is = tt
number_4 (Some (a ∷ b ∷ c ∷ [])) is = tt
number_4 (Some (a ∷ b ∷ c ∷ d ∷ [])) is = omega (arith, is 0, is 1, is 2, is 3)
number_4 (Some (a ∷ b ∷ c ∷ d ∷ e ∷ more)) is =
    let long = a ∷ b ∷ c ∷ d ∷ e ∷ more in
    elim (length long == 4) as (λ t. (length long == 4) ≡ t → IfSome (if t then Some
    (from_be_bytes w32 long) else None) (λ n. n ≤ 4294967295)) [
      | true ↦ λ same. absurd (omega (arith, eqb-true (length long) 4 same))
      | false ↦ λ _. tt
    ] refl

-- ---- translators

below_last : (rule : NatRule) → IsNatRule rule → (port : ℕ) → nat_lt rule.last port ≡ false → port ≤ 65535
below_last rule is port room = let last = is.last in grind (arith, nat_tests)

drawing_fits : (rule : NatRule) → IsNatRule rule → (flow : Flow) (port : ℕ) (answers : List Answer) → port ≤ 65535
    → FitsAsk (drawing rule flow port answers)
drawing_fits rule is flow port [] few = tt
drawing_fits rule is flow port (reverse ∷ answers) few =
    ((is.outside, few), (bytes_2 port, (bytes_4 (port + 1), (bytes_6 flow.source flow.source_port, tt))))

unknown_fits : (rule : NatRule) → IsNatRule rule → (flow : Flow) (answers : List Answer)
    → FitsAsk (unknown rule flow answers)
unknown_fits rule is flow [] = tt
unknown_fits rule is flow (next ∷ answers) =
    let port = unwrap_or (number_in w32 next.value) rule.first in
    elim (nat_lt rule.last port) as (λ t. nat_lt rule.last port ≡ t → FitsAsk
    (if t then filter_out else drawing rule flow port answers)) [
      | true ↦ λ _. (tt, tt)
      | false ↦ λ room. drawing_fits rule is flow port answers (below_last rule is port room)
    ] refl

known_fits : (rule : NatRule) → IsNatRule rule → (flow : Flow) (port : Option ℕ) (answers : List Answer)
    → IfSome port (λ n. n ≤ 65535)
    → FitsAsk (nat.known_or_not rule flow port answers)
known_fits rule is flow (Some port) answers few = ((is.outside, few), tt)
known_fits rule is flow None answers few = unknown_fits rule is flow answers

outgoing_fits : (rule : NatRule) → IsNatRule rule → (flow : Flow) (answers : List Answer) → AreAnswers answers
    → FitsAsk (outgoing rule flow answers)
outgoing_fits rule is flow [] are = tt
outgoing_fits rule is flow (port ∷ answers) are = known_fits rule is flow (number_in w16 port.value) answers
    (number_2 port.value are.0)

inside_fits : (value : Option (List ℕ)) → IsValue value → FitsAsk (to_inside value)
inside_fits None is = (tt, tt)
inside_fits (Some []) is = (tt, tt)
inside_fits (Some (a ∷ [])) is = (tt, tt)
inside_fits (Some (a ∷ b ∷ [])) is = (tt, tt)
inside_fits (Some (a ∷ b ∷ c ∷ [])) is = (tt, tt)
inside_fits (Some (a ∷ b ∷ c ∷ d ∷ [])) is = (tt, tt)
inside_fits (Some (a ∷ b ∷ c ∷ d ∷ e ∷ [])) is = (tt, tt)
inside_fits (Some (a ∷ b ∷ c ∷ d ∷ e ∷ f ∷ [])) is = (
  (
    omega (arith, is 0, is 1, is 2, is 3),
    omega
        (arith, is 4, is 5),
  ),
  tt,
)
inside_fits (Some (a ∷ b ∷ c ∷ d ∷ e ∷ f ∷ g ∷ more)) is =
    let long = a ∷ b ∷ c ∷ d ∷ e ∷ f ∷ g ∷ more in
    elim (length long == 6) as (λ t. (length long == 6) ≡ t → FitsAsk (if t
    then forward_changed [] (Destination (from_be_bytes w32 (take 4 long)) (from_be_bytes w16 (drop 4 long)))
    else filter_out)) [
      | true ↦ λ same. absurd (omega (arith, eqb-true (length long) 6 same))
      | false ↦ λ _. (tt, tt)
    ] refl

incoming_fits : (flow : Flow) (answers : List Answer) → AreAnswers answers → FitsAsk (incoming flow answers)
incoming_fits flow [] are = tt
incoming_fits flow (inside ∷ answers) are = inside_fits inside.value are.0

either : (t : Bool) (one other : Ask) → FitsAsk one → FitsAsk other → FitsAsk (if t then one else other)
either true one other is also = is
either false one other is also = also

nat_fits : (rule : NatRule) → IsNatRule rule → (flow : Flow) (answers : List Answer) → AreAnswers answers
    → FitsAsk (nat_ask rule flow answers)
nat_fits rule is flow answers are =
    either (leaves rule flow) _ _ (outgoing_fits rule is flow answers are)
    (either (flow.destination == rule.outside) _ _ (incoming_fits flow answers are) (tt, tt))

-- ---- balancers

pub below : (most : ℕ) (xs : List ℕ) (place : ℕ) → AllByRecursion (λ x. x ≤ most) xs → slice_index xs place ≤ most
below most [] place all = omega arith
below most (x ∷ xs) zero all = all.0
below most (x ∷ xs) (suc place) all = below most xs place all.1

client_fits : (rule : BalanceRule) → IsBalanceRule rule → (flow : Flow) → flow.destination_port ≤ 65535
    → (backend : Option ℕ) (answers : List Answer)
    → IfSome backend (λ n. n ≤ 4294967295) → FitsAsk (balance.known_or_not rule flow backend answers)
client_fits rule is flow port (Some backend) answers few = ((few, port), tt)
client_fits rule is flow port None [] few = tt
client_fits rule is flow port None (turn ∷ answers) few =
    ((below 4294967295 rule.backends _ is.addresses, port), (bytes_4 _, (bytes_4 _, tt)))

from_client_fits : (rule : BalanceRule) → IsBalanceRule rule → (flow : Flow) → flow.destination_port ≤ 65535
    → (answers : List Answer) → AreAnswers answers
    → FitsAsk (from_client rule flow answers)
from_client_fits rule is flow port [] are = tt
from_client_fits rule is flow port (backend ∷ answers) are = client_fits rule is flow port
    (number_in w32 backend.value) answers (number_4 backend.value are.0)

replied_fits : (rule : BalanceRule) → IsBalanceRule rule → (flow : Flow) (backend : Option ℕ)
    → FitsAsk (replied rule flow backend)
replied_fits rule is flow None = (tt, tt)
replied_fits rule is flow (Some backend) = either (backend == flow.source) _ _ ((is.address, is.port), tt) (tt, tt)

from_backend_fits : (rule : BalanceRule) → IsBalanceRule rule → (flow : Flow) (answers : List Answer)
    → FitsAsk (from_backend rule flow answers)
from_backend_fits rule is flow [] = tt
from_backend_fits rule is flow (backend ∷ answers) = replied_fits rule is flow (number_in w32 backend.value)

balance_fits : (rule : BalanceRule) → IsBalanceRule rule → (flow : Flow) → flow.destination_port ≤ 65535
    → (answers : List Answer) → AreAnswers answers
    → FitsAsk (balance_ask rule flow answers)
balance_fits rule is flow port answers are =
    either (flow.destination == rule.address && flow.destination_port == rule.port) _ _
    (from_client_fits rule is flow port answers are)
    (either (list_any (λ backend. backend == flow.source) rule.backends && flow.source_port == rule.port) _ _
    (from_backend_fits rule is flow answers) (tt, tt))

-- ---- monitors and firewalls

monitor_fits : (groups : ℕ) (flow : Flow) (answers : List Answer) → FitsAsk (monitor_ask groups flow answers)
monitor_fits groups flow [] = tt
monitor_fits groups flow (answer ∷ answers) = (tt, (bytes_8 _, tt))

connection_fits : (rule : FirewallRule) (flow : Flow) (value : Option (List ℕ))
    → FitsAsk (firewall.known_or_not rule flow value)
connection_fits rule flow (Some value) = (tt, tt)
connection_fits rule flow None = either (is_allowed rule.lines flow) _ _ (tt, ((λ k. omega arith), tt)) (tt, tt)

firewall_fits : (rule : FirewallRule) (flow : Flow) (answers : List Answer) → FitsAsk (firewall_ask rule flow answers)
firewall_fits rule flow [] = tt
firewall_fits rule flow (answer ∷ answers) = connection_fits rule flow answer.value

-- ---- all rules

flow_ask_fits : (rule : Rule) → IsRule rule → (flow : Flow) → flow.destination_port ≤ 65535 → (answers : List Answer)
    → AreAnswers answers
    → FitsAsk (ask_of_flow rule flow answers)
flow_ask_fits Pass is flow port answers are = (tt, tt)
flow_ask_fits (Monitor groups) is flow port answers are = monitor_fits groups flow answers
flow_ask_fits (Nat rule) is flow port answers are = nat_fits rule is flow answers are
flow_ask_fits (Firewall rule) is flow port answers are = firewall_fits rule flow answers
flow_ask_fits (Balance rule) is flow port answers are = balance_fits rule is flow port answers are

port_fits : (bytes : List ℕ) → AreBytes bytes → (flow_in bytes).destination_port ≤ 65535
unfolding flow_in
port_fits bytes are = word_most bytes _ are

pub ask_fits : (rule : Rule) → IsRule rule → (packet : List ℕ) → AreBytes packet → (answers : List Answer)
    → AreAnswers answers → FitsAsk (ask rule packet answers)
unfolding ask
ask_fits rule is packet bytes answers are =
    elim (flow_found packet) as (λ (o : Option Flow). flow_found packet ≡ o → FitsAsk (ask_of rule o answers)) [
      | None ↦ λ _. (tt, tt)
      | Some flow ↦ λ found.
          let told = subst (λ (o : Option Flow). MatchOption o (¬ IsFlow packet) (λ f. IsFlow packet
          × (f ≡ flow_in packet))) found (flows_are_found packet) in
          let same = ap (λ (f : Flow). f.destination_port) told.1 in
          flow_ask_fits rule is flow (omega (arith, same, port_fits packet bytes)) answers are
    ] refl
