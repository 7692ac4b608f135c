-- Flow packets, and the flow that each names.
use Rattle.std.specs.Prelude.{◌≡◌, ℕ, ◌+◌, ◌/◌, ◌%◌, ◌≤◌, ◌⊎◌, ◌&&◌, ◌||◌, ◌==◌, nat_le, Bool, Option, Some, None}
use Rattle.std.specs.Prelude.{if◌then◌else◌, List, length}
use Rattle.ftc_packet.specs.declared.flow.Flow.{Flow}
use Rattle.ftc_packet.specs.declared.layout.TheConstants.{ETHERTYPE, ETHERTYPE_IPV4, IPV4, IPV4_FRAGMENT}
use Rattle.ftc_packet.specs.declared.layout.TheConstants.{IPV4_HEADER_WORDS, IPV4_OPTIONS, IPV4_SOURCE}
use Rattle.ftc_packet.specs.declared.layout.TheConstants.{IPV4_DESTINATION, TCP, UDP, SOURCE_PORT, DESTINATION_PORT}
use Rattle.ftc_packet.specs.Layout.{word_at, address_at, version_of, header_words, protocol_of, transport_start}
use Rattle.ftc_packet.specs.Layout.{fixed_header}

-- The flag that more fragments follow: of the 16 bits that hold it, bit 13.
abbrev pub more_fragments : List ℕ → ℕ
more_fragments bytes = word_at bytes IPV4_FRAGMENT / 0x2000 % 2

-- Where the datagram's bytes stand in the whole one: the low 13 of those 16 bits.
abbrev pub fragment_offset : List ℕ → ℕ
fragment_offset bytes = word_at bytes IPV4_FRAGMENT % 0x2000

-- A flow packet: IPv4 on Ethernet, not a fragment, that carries TCP or UDP, with its headers captured.
pub record IsFlow (bytes : List ℕ) : Type 0 where
  pub captured : IPV4_OPTIONS ≤ length bytes
  pub ethertype : word_at bytes ETHERTYPE ≡ ETHERTYPE_IPV4
  pub version : version_of bytes ≡ IPV4
  pub header_length : IPV4_HEADER_WORDS ≤ header_words bytes
  pub header_captured : transport_start bytes ≤ length bytes
  pub last_fragment : more_fragments bytes ≡ 0
  pub first_fragment : fragment_offset bytes ≡ 0
  pub carries : (protocol_of bytes ≡ TCP) ⊎ (protocol_of bytes ≡ UDP)
  pub transport_captured : transport_start bytes + fixed_header (protocol_of bytes) ≤ length bytes

-- The same as a test that computes.
unfoldable pub is_flow : List ℕ → Bool
is_flow bytes =
    nat_le IPV4_OPTIONS (length bytes)
    && word_at bytes ETHERTYPE == ETHERTYPE_IPV4
    && version_of bytes == IPV4
    && nat_le IPV4_HEADER_WORDS (header_words bytes)
    && more_fragments bytes == 0
    && fragment_offset bytes == 0
    && (protocol_of bytes == TCP || protocol_of bytes == UDP)
    && nat_le (transport_start bytes + fixed_header (protocol_of bytes)) (length bytes)

-- The flow that the fields of a flow packet name.
unfoldable pub flow_in : List ℕ → Flow
flow_in bytes = record {
  protocol = protocol_of bytes;
  source = address_at bytes IPV4_SOURCE;
  source_port = word_at bytes (transport_start bytes + SOURCE_PORT);
  destination = address_at bytes IPV4_DESTINATION;
  destination_port = word_at bytes (transport_start bytes + DESTINATION_PORT);
}

-- The flow of a flow packet, and None for every other packet.
unfoldable pub flow_found : List ℕ → Option Flow
flow_found bytes = if is_flow bytes then Some (flow_in bytes) else None
