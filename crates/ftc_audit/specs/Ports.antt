-- Which outside ports a translator gave.
use Rattle.std.specs.Prelude.{◌≡◌, ℕ, List, Option, Some, None, if◌then◌else◌, option_and_then}
use Rattle.ftc_packet.specs.declared.flow.Flow.{Flow}
use Rattle.ftc_packet.specs.Flow.{flow_found}
use Rattle.ftc_nat.specs.declared.rule.NatRule.{NatRule}
use Rattle.ftc_nat.specs.Nat.{leaves}
use Rattle.ftc_audit.specs.declared.line.PortLine.{PortLine}
use Rattle.ftc_audit.specs.Visits.{Seen}

-- the source port of a packet, 0 where it is of no flow
abbrev pub source_port : Option Flow → ℕ
source_port None = 0
source_port (Some flow) = flow.source_port

-- The line of a packet of this flow that left the inside net: its inside endpoint, and the port with which it went on.
-- A packet that was dropped has none.
abbrev pub port_line_of_flow : NatRule → Option (List ℕ) → Flow → Option PortLine
port_line_of_flow rule None flow = None
port_line_of_flow rule (Some after) flow =
    if leaves rule flow
    then Some (record {
      outside = source_port (flow_found after);
      protocol = flow.protocol;
      address = flow.source;
      port = flow.source_port;
    })
    else None

-- the line of a visit
abbrev pub port_line_of : NatRule → Seen → Option PortLine
port_line_of rule seen = option_and_then (port_line_of_flow rule seen.outcome.packet) (flow_found seen.before)

-- the same inside endpoint
pub record SameInside (one other : PortLine) : Type 0 where
  pub protocol : one.protocol ≡ other.protocol
  pub address : one.address ≡ other.address
  pub port : one.port ≡ other.port
