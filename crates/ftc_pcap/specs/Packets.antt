-- How many packets a capture may have, and how many bytes of each may be captured.
use Rattle.std.specs.Prelude.{◌≤◌, List, length}
use Rattle.std.specs.List.{AllByRecursion}
use Rattle.ftc_base.specs.declared.limits.TheConstants.{MOST_RECORDS, MOST_CAPTURED}
use Rattle.ftc_pcap.specs.declared.packets.Packet.{Packet}

-- at most MOST_RECORDS packets, of at most MOST_CAPTURED captured bytes each
pub record ArePackets (packets : List Packet) : Type 0 where
  pub few : length packets ≤ MOST_RECORDS
  pub short : AllByRecursion (λ packet. length packet.bytes ≤ MOST_CAPTURED) packets
