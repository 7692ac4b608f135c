-- The bytes of a capture's packets.
use Rattle.std.specs.Prelude.{ℕ, List, map}
use Rattle.ftc_pcap.specs.declared.packets.Packet.{Packet}

abbrev pub bytes_of_packets : List Packet → List (List ℕ)
bytes_of_packets packets = map (λ packet. packet.bytes) packets
