-- Which backends a balancer gave.
use Rattle.std.specs.Prelude.{◌≡◌, ◌==◌, ◌&&◌, ℕ, List, Option, Some, None, if◌then◌else◌, option_and_then}
use Rattle.ftc_packet.specs.declared.flow.Flow.{Flow}
use Rattle.ftc_packet.specs.Flow.{flow_found}
use Rattle.ftc_balance.specs.declared.rule.BalanceRule.{BalanceRule}
use Rattle.ftc_audit.specs.declared.line.ClientLine.{ClientLine}
use Rattle.ftc_audit.specs.Visits.{Seen}

-- the destination of a packet, 0 where it is of no flow
abbrev pub destination : Option Flow → ℕ
destination None = 0
destination (Some flow) = flow.destination

-- The line of a packet of this flow that came to the balanced address and port: its client endpoint, and the address to
-- which it went on. A packet that was dropped has none.
abbrev pub client_line_of_flow : BalanceRule → Option (List ℕ) → Flow → Option ClientLine
client_line_of_flow rule None flow = None
client_line_of_flow rule (Some after) flow =
    if flow.destination == rule.address && flow.destination_port == rule.port
    then Some (record {
      backend = destination (flow_found after);
      protocol = flow.protocol;
      address = flow.source;
      port = flow.source_port;
    })
    else None

-- the line of a visit
abbrev pub client_line_of : BalanceRule → Seen → Option ClientLine
client_line_of rule seen = option_and_then (client_line_of_flow rule seen.outcome.packet) (flow_found seen.before)

-- the same client endpoint
pub record SameClient (one other : ClientLine) : Type 0 where
  pub protocol : one.protocol ≡ other.protocol
  pub address : one.address ≡ other.address
  pub port : one.port ≡ other.port
