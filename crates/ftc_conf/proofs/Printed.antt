-- Printed lines read as what they print, each by its form.
use Rattle.std.proofs.Common.{◌≡◌, ◌≤◌, ◌<◌, ℕ, ◌+◌, Bool, true, false, List, [], ◌∷◌, ◌++◌, length, refl, ap, ◌∙◌}
use Rattle.std.proofs.Common.{arith, Ok, length-append, inl, inr}
use Rattle.std.specs.Prelude.{◌==◌, nat_le, codes, decimal, map, Option, Some, None, ◌⊎◌}
use Rattle.std.specs.List.{AllByRecursion, join_with_byte}
use Rattle.std.proofs.lemmas.List.{append_assoc, append-nil}
use Rattle.std.proofs.lemmas.Bool.Decides.{nat_tests}
use Rattle.ftc_base.specs.declared.limits.TheConstants.{MOST_BACKENDS}
use Rattle.ftc_base.specs.declared.network.Net.{Net}
use Rattle.ftc_base.specs.Endpoint.{IsNet}
use Rattle.ftc_nat.specs.declared.rule.NatRule.{NatRule}
use Rattle.ftc_nat.specs.Bounds.{IsNatRule}
use Rattle.ftc_firewall.specs.declared.rule.FireLine.{FireLine}
use Rattle.ftc_firewall.specs.Bounds.{IsFireLine}
use Rattle.ftc_balance.specs.declared.rule.BalanceRule.{BalanceRule}
use Rattle.ftc_balance.specs.Bounds.{IsBalanceRule}
use Rattle.ftc_base.proofs.EachOf.{all-append, all-weaker}
use Rattle.ftc_base.proofs.Separated.{Without, parts_of-join}
use Rattle.ftc_base.proofs.PlainWords.{IsLetter, IsPlainWord, plain}
use Rattle.ftc_base.proofs.Decimals.{some_digit, plain_number}
use Rattle.ftc_conf.specs.declared.limits.TheConstants.{MOST_PORT}
use Rattle.ftc_conf.specs.Forms.{nat_of, protocol_of, fire_line_of, with_backend, with_backends, backends_of}
use Rattle.ftc_conf.specs.Forms.{balance_of}
use Rattle.ftc_conf.specs.Plain.{address_text, net_text, ports_text, protocol_text, decision_text, nat_words}
use Rattle.ftc_conf.specs.Plain.{fire_line_words, balance_words}
use Rattle.ftc_conf.proofs.Letters.{part_before-part, part_behind-part}
use Rattle.ftc_conf.proofs.Spelled.{longer, IsAddressByte, all-join, address_bytes, some_address, net_bytes}
use Rattle.ftc_conf.proofs.Spelled.{ports_bytes, number_from_to-decimal, address_word-text, net_word-text}
use Rattle.ftc_conf.proofs.Spelled.{dashed_ports-text, ports_word-text}

pub plain_address : (address : ℕ) → address ≤ 4294967295 → IsPlainWord (address_text address)
plain_address address small =
    record {
      some = some_address address small;
      letters = all-weaker IsAddressByte IsLetter (λ b byte. (omega arith, omega arith)) (address_text address)
          (address_bytes address small);
    }

pub plain_net : (net : Net) → IsNet net → IsPlainWord (net_text net)
plain_net net bounds = record {
  some = longer (address_text net.base) _ (some_address net.base bounds.address);
  letters = all-weaker (λ b. (46 ≤ b) × (b ≤ 57)) IsLetter (λ b byte. (omega arith, omega arith)) (net_text net)
      (net_bytes net bounds);
}

pub plain_ports : (first last : ℕ) → first ≤ 65535 → last ≤ 65535 → IsPlainWord (ports_text first last)
plain_ports first last small low = record {
  some = longer (decimal first) _ (some_digit first (omega arith));
  letters = all-weaker (λ b. (45 ≤ b)
      × (b ≤ 57)) IsLetter (λ b byte. (omega arith, omega arith)) (ports_text first last)
      (ports_bytes first last small low);
}

-- `nat`
pub plain_nat : (rule : NatRule) → IsNatRule rule → AllByRecursion IsPlainWord (nat_words rule)
plain_nat rule bounds = (
  plain (codes "nat") refl,
  (
    plain (codes "inside") refl,
    (
      plain_net rule.inside bounds.inside,
      (
        plain (codes "outside") refl,
        (
          plain_address rule.outside bounds.outside,
          (
            plain (codes "ports") refl,
            (
              plain_ports rule.first rule.last (let low = bounds.ordered in let high = bounds.last in
                  omega arith) bounds.last,
              tt,
            ),
          ),
        ),
      ),
    ),
  ),
)

pub nat_of-words : (rule : NatRule) → IsNatRule rule →
    nat_of (codes "inside" ∷ net_text rule.inside ∷ codes "outside" ∷ address_text rule.outside ∷ codes "ports"
    ∷ ports_text rule.first rule.last ∷ []) ≡ Ok rule
nat_of-words rule bounds =
    rw (
      net_word-text rule.inside bounds.inside,
      address_word-text rule.outside bounds.outside,
      bounds.beyond,
      dashed_ports-text 1 rule.first rule.last bounds.first bounds.ordered bounds.last,
    ) refl

-- `allow` and `deny`
plain_protocol : (protocol : Option ℕ) → (protocol ≡ None) ⊎ (protocol ≡ Some 6) ⊎ (protocol ≡ Some 17) →
    IsPlainWord (protocol_text protocol)
plain_protocol protocol (inl e) = rw e (plain (codes "any") refl)
plain_protocol protocol (inr (inl e)) = rw e (plain (codes "tcp") refl)
plain_protocol protocol (inr (inr e)) = rw e (plain (codes "udp") refl)

protocol_of-text : (protocol : Option ℕ) → (protocol ≡ None) ⊎ (protocol ≡ Some 6) ⊎ (protocol ≡ Some 17) →
    protocol_of (protocol_text protocol) ≡ Ok protocol
protocol_of-text protocol (inl e) = rw e refl
protocol_of-text protocol (inr (inl e)) = rw e refl
protocol_of-text protocol (inr (inr e)) = rw e refl

plain_decision : (allow : Bool) → IsPlainWord (decision_text allow)
plain_decision true = plain (codes "allow") refl
plain_decision false = plain (codes "deny") refl

pub plain_fire_line : (line : FireLine) → IsFireLine line → AllByRecursion IsPlainWord (fire_line_words line)
plain_fire_line line bounds = (
  plain_decision line.allow,
  (
    plain_protocol line.protocol bounds.protocol,
    (
      plain_net line.source bounds.source,
      (
        plain_net line.destination bounds.destination,
        (
          plain_ports line.low line.high (let low = bounds.ordered in let high = bounds.high in
              omega arith) bounds.high,
          tt,
        ),
      ),
    ),
  ),
)

pub fire_line_of-words : (line : FireLine) → IsFireLine line →
    fire_line_of line.allow (protocol_text line.protocol ∷ net_text line.source ∷ net_text line.destination
    ∷ ports_text line.low line.high ∷ []) ≡ Ok line
fire_line_of-words line bounds =
    rw (
      protocol_of-text line.protocol bounds.protocol,
      net_word-text line.source bounds.source,
      net_word-text line.destination bounds.destination,
      ports_word-text line.low line.high bounds.ordered bounds.high,
    ) refl

-- `balance`
address_byte-comma : (b : ℕ) → IsAddressByte b → (b == 44) ≡ false
address_byte-comma b byte = grind (arith, nat_tests)

address_byte-colon : (b : ℕ) → IsAddressByte b → (b == 58) ≡ false
address_byte-colon b byte = grind (arith, nat_tests)

abbrev AreAddresses : List ℕ → Type 0
AreAddresses backends = AllByRecursion (λ backend. backend ≤ 4294967295) backends

no_commas : (backends : List ℕ) → AreAddresses backends → AllByRecursion (Without 44) (map address_text backends)
no_commas [] all = tt
no_commas (backend ∷ backends) all = (
  all-weaker IsAddressByte (λ b. (b == 44) ≡ false) address_byte-comma (address_text backend)
      (address_bytes backend all.0),
  no_commas backends all.1,
)

backends_bytes : (backends : List ℕ) → AreAddresses backends →
    AllByRecursion (AllByRecursion IsLetter) (map address_text backends)
backends_bytes [] all = tt
backends_bytes (backend ∷ backends) all = (
  all-weaker IsAddressByte IsLetter (λ b byte. (omega arith, omega arith)) (address_text backend)
      (address_bytes backend all.0),
  backends_bytes backends all.1,
)

with_backend-text : (taken : List ℕ) (backend : ℕ) → length taken < MOST_BACKENDS → backend ≤ 4294967295 →
    with_backend taken (address_text backend) ≡ Ok (taken ++ backend ∷ [])
with_backend-text taken backend room small =
    let fits : nat_le MOST_BACKENDS (length taken) ≡ false = grind (arith, nat_tests) in
    rw (fits, address_word-text backend small) refl

with_backends-texts : (taken backends : List ℕ) → length taken + length backends ≤ MOST_BACKENDS →
    AreAddresses backends → with_backends taken (map address_text backends) ≡ Ok (taken ++ backends)
with_backends-texts taken [] few all = rw append-nil refl
with_backends-texts taken (backend ∷ backends) few all =
    let later = with_backends-texts (taken
    ++ backend ∷ []) backends (omega (arith, length-append taken (backend ∷ []))) all.1 in
    rw (with_backend-text taken backend (omega arith) all.0)
    (later ∙ ap (λ (all : List ℕ). Ok all) (append_assoc taken (backend ∷ []) backends))

pub backends_of-text : (backends : List ℕ) → 1 ≤ length backends → length backends ≤ MOST_BACKENDS →
    AreAddresses backends → backends_of (join_with_byte 44 (map address_text backends)) ≡ Ok backends
backends_of-text [] some few all = absurd (omega arith)
backends_of-text (backend ∷ backends) some few all =
    let parts = parts_of-join 44 (address_text backend) (map address_text backends) refl
    (no_commas (backend ∷ backends) all) in
    ap (with_backends []) parts ∙ with_backends-texts [] (backend ∷ backends) (omega arith) all

some_backend : (backends : List ℕ) → 1 ≤ length backends → AreAddresses backends →
    1 ≤ length (join_with_byte 44 (map address_text backends))
some_backend [] some all = absurd (omega arith)
some_backend (backend ∷ []) some all = some_address backend all.0
some_backend (backend ∷ next ∷ backends) some all = longer (address_text backend) _ (some_address backend all.0)

plain_backends : (backends : List ℕ) → 1 ≤ length backends → AreAddresses backends →
    IsPlainWord (join_with_byte 44 (map address_text backends))
plain_backends backends some all = record {
  some = some_backend backends some all;
  letters = all-join IsLetter 44 (map address_text backends) (omega arith, omega arith) (backends_bytes backends all);
}

plain_endpoint : (address port : ℕ) → address ≤ 4294967295 → port ≤ 65535 →
    IsPlainWord (address_text address ++ 58 ∷ decimal port)
plain_endpoint address port small low = record {
  some = longer (address_text address) _ (some_address address small);
  letters = all-append IsLetter (address_text address) (58 ∷ decimal port) (plain_address address small).letters
      ((omega arith, omega arith), (plain_number port (omega arith)).letters);
}

pub plain_balance : (rule : BalanceRule) → IsBalanceRule rule → AllByRecursion IsPlainWord (balance_words rule)
plain_balance rule bounds = (
  plain (codes "balance") refl,
  (
    plain_endpoint rule.address rule.port bounds.address bounds.port,
    (plain (codes "to") refl, (plain_backends rule.backends bounds.some bounds.addresses, tt)),
  ),
)

pub balance_of-words : (rule : BalanceRule) → IsBalanceRule rule →
    balance_of ((address_text rule.address ++ 58 ∷ decimal rule.port) ∷ codes "to"
    ∷ join_with_byte 44 (map address_text rule.backends) ∷ []) ≡ Ok rule
balance_of-words rule bounds =
    let no_colon = all-weaker IsAddressByte (λ b. (b == 58) ≡ false) address_byte-colon (address_text rule.address)
    (address_bytes rule.address bounds.address) in
    let address = part_before-part 58 (address_text rule.address) (decimal rule.port) refl no_colon in
    let port = part_behind-part 58 (address_text rule.address) (decimal rule.port) refl no_colon in
    let low = bounds.port in
    rw (
      address,
      port,
      address_word-text rule.address bounds.address,
      number_from_to-decimal 0 MOST_PORT rule.port (omega arith) bounds.port (omega arith),
      backends_of-text rule.backends bounds.some bounds.few bounds.addresses,
    ) refl
