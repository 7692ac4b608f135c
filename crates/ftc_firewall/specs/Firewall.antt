-- The rule of a firewall.
use Rattle.std.specs.Prelude.{ℕ, Bool, ◌==◌, ◌&&◌, ◌||◌, nat_le, nat_lt, List, [], ◌∷◌, ◌++◌, Option, Some, None}
use Rattle.std.specs.Prelude.{if◌then◌else◌, codes, true, false}
use Rattle.ftc_base.specs.declared.ask.Answer.{Answer}
use Rattle.ftc_base.specs.declared.ask.Ask.{Ask}
use Rattle.ftc_base.specs.declared.ask.Ask.TheVariants.{Read}
use Rattle.ftc_base.specs.Ask.{forward, filter_out, put}
use Rattle.ftc_base.specs.Endpoint.{contains, endpoint}
use Rattle.ftc_packet.specs.declared.flow.Flow.{Flow}
use Rattle.ftc_firewall.specs.declared.rule.FireLine.{FireLine}
use Rattle.ftc_firewall.specs.declared.rule.FirewallRule.{FirewallRule}

-- The source is the smaller end, by address and then port.
abbrev pub source_is_smaller : Flow → Bool
source_is_smaller flow =
    nat_lt flow.source flow.destination
    || (flow.source == flow.destination && nat_le flow.source_port flow.destination_port)

-- `w`, the protocol and both ends, the smaller first: the key of a connection, in both directions.
abbrev pub connection_key : Flow → List ℕ
connection_key flow =
    codes "w" ++ flow.protocol
    ∷ (if source_is_smaller flow
    then endpoint flow.source flow.source_port ++ endpoint flow.destination flow.destination_port
    else endpoint flow.destination flow.destination_port ++ endpoint flow.source flow.source_port)

-- The line speaks of the protocol.
abbrev pub is_of_protocol : Option ℕ → ℕ → Bool
is_of_protocol None protocol = true
is_of_protocol (Some wanted) protocol = wanted == protocol

abbrev pub matches : FireLine → Flow → Bool
matches line flow =
    is_of_protocol line.protocol flow.protocol
    && contains line.source flow.source
    && contains line.destination flow.destination
    && nat_le line.low flow.destination_port
    && nat_le flow.destination_port line.high

-- The first line that matches decides, and where none does the flow is denied.
abbrev pub is_allowed : List FireLine → Flow → Bool
is_allowed [] flow = false
is_allowed (line ∷ lines) flow = if matches line flow then line.allow else is_allowed lines flow

-- A packet of a connection that isn't known yet.
abbrev pub first_packet : FirewallRule → Flow → Ask
first_packet rule flow = if is_allowed rule.lines flow then forward (put (connection_key flow) [] ∷ []) else filter_out

abbrev pub known_or_not : FirewallRule → Flow → Option (List ℕ) → Ask
known_or_not rule flow (Some value) = forward []
known_or_not rule flow None = first_packet rule flow

-- What a firewall asks next of a flow's packet.
abbrev pub firewall_ask : FirewallRule → Flow → List Answer → Ask
firewall_ask rule flow [] = Read (connection_key flow) true
firewall_ask rule flow (connection ∷ answers) = known_or_not rule flow connection.value
