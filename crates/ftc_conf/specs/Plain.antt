-- A plain text of each chain.
use Rattle.std.specs.Prelude.{ℕ, ◌/◌, ◌%◌, Bool, ◌==◌, List, [], ◌∷◌, ◌++◌, map, Option, Some, None, if◌then◌else◌}
use Rattle.std.specs.Prelude.{codes, decimal}
use Rattle.std.specs.List.{join_with_byte, flat_map}
use Rattle.ftc_base.specs.declared.network.Net.{Net}
use Rattle.ftc_nat.specs.declared.rule.NatRule.{NatRule}
use Rattle.ftc_firewall.specs.declared.rule.FireLine.{FireLine}
use Rattle.ftc_balance.specs.declared.rule.BalanceRule.{BalanceRule}
use Rattle.ftc_mbox.specs.Chain.{Chain}
use Rattle.ftc_mbox.specs.declared.rule.Rule.{Rule}
use Rattle.ftc_mbox.specs.declared.rule.Rule.TheVariants.{Pass, Monitor, Nat, Firewall, Balance}

-- the four bytes of an address, from the highest on, with dots between them
abbrev pub address_text : ℕ → List ℕ
address_text address = join_with_byte 46 (decimal (address / 16777216) ∷ decimal (address / 65536 % 256)
    ∷ decimal (address / 256 % 256) ∷ decimal (address % 256) ∷ [])

abbrev pub net_text : Net → List ℕ
net_text net = address_text net.base ++ 47 ∷ decimal net.length

abbrev pub ports_text : ℕ → ℕ → List ℕ
ports_text first last = decimal first ++ 45 ∷ decimal last

abbrev pub protocol_text : Option ℕ → List ℕ
protocol_text None = codes "any"
protocol_text (Some number) = if number == 6 then codes "tcp" else codes "udp"

abbrev pub nat_words : NatRule → List (List ℕ)
nat_words rule = codes "nat" ∷ codes "inside" ∷ net_text rule.inside ∷ codes "outside" ∷ address_text rule.outside
    ∷ codes "ports" ∷ ports_text rule.first rule.last ∷ []

abbrev pub decision_text : Bool → List ℕ
decision_text allow = if allow then codes "allow" else codes "deny"

abbrev pub fire_line_words : FireLine → List (List ℕ)
fire_line_words line = decision_text line.allow ∷ protocol_text line.protocol ∷ net_text line.source
    ∷ net_text line.destination ∷ ports_text line.low line.high ∷ []

abbrev pub balance_words : BalanceRule → List (List ℕ)
balance_words rule = codes "balance" ∷ (address_text rule.address ++ 58 ∷ decimal rule.port) ∷ codes "to"
    ∷ join_with_byte 44 (map address_text rule.backends) ∷ []

-- the lines of a rule, as words: a firewall's lines stand below it
abbrev pub rule_lines : Rule → List (List (List ℕ))
rule_lines Pass = (codes "pass" ∷ []) ∷ []
rule_lines (Monitor groups) = (codes "monitor" ∷ decimal groups ∷ []) ∷ []
rule_lines (Nat rule) = nat_words rule ∷ []
rule_lines (Firewall rule) = (codes "firewall" ∷ []) ∷ map fire_line_words rule.lines
rule_lines (Balance rule) = balance_words rule ∷ []

abbrev pub chain_lines : Chain → List (List (List ℕ))
chain_lines chain = (codes "f" ∷ decimal chain.failures ∷ []) ∷ (codes "partitions" ∷ decimal chain.partitions ∷ [])
    ∷ flat_map rule_lines chain.rules

-- lines of words with one space between them, each with a line feed behind it
abbrev pub text_of_lines : List (List (List ℕ)) → List ℕ
text_of_lines [] = []
text_of_lines (words ∷ lines) = join_with_byte 32 words ++ 10 ∷ text_of_lines lines

abbrev pub plain_text : Chain → List ℕ
plain_text chain = text_of_lines (chain_lines chain)
