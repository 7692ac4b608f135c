-- Where the parts of a packet stand: Ethernet II, then IPv4 (RFC 791), then TCP (RFC 9293) or UDP (RFC 768).
use Rattle.std.specs.Prelude.{ℕ, ◌+◌, ◌*◌, ◌/◌, ◌%◌, ◌<◌, List, if◌then◌else◌, ◌==◌, slice_index, slice_set}
use Rattle.ftc_packet.specs.declared.layout.TheConstants.{ETHERNET_HEADER, IPV4_VERSION, IPV4_PROTOCOL}
use Rattle.ftc_packet.specs.declared.layout.TheConstants.{IPV4_TOTAL_LENGTH, TCP, TCP_HEADER, UDP_HEADER, TCP_CHECKSUM}
use Rattle.ftc_packet.specs.declared.layout.TheConstants.{UDP_CHECKSUM}

-- The items of the list are bytes.
abbrev pub AreBytes : List ℕ → Type 0
AreBytes bytes = (place : ℕ) → slice_index bytes place < 256

-- The word of 16 bits at a place, the first byte high.
unfoldable pub word_at : List ℕ → ℕ → ℕ
word_at bytes at = 256 * slice_index bytes at + slice_index bytes (at + 1)

-- The bytes with another word at a place.
unfoldable pub with_word : List ℕ → ℕ → ℕ → List ℕ
with_word bytes at word = slice_set (slice_set bytes at (word / 256)) (at + 1) (word % 256)

-- The address of 32 bits at a place, its first word high.
abbrev pub address_at : List ℕ → ℕ → ℕ
address_at bytes at = 65536 * word_at bytes at + word_at bytes (at + 2)

-- The IP version: the high 4 bits of the IPv4 header's first byte.
abbrev pub version_of : List ℕ → ℕ
version_of bytes = slice_index bytes IPV4_VERSION / 16

-- How many words of 32 bits the IPv4 header has: the low 4 bits of its first byte.
abbrev pub header_words : List ℕ → ℕ
header_words bytes = slice_index bytes IPV4_VERSION % 16

-- The number of the protocol that the datagram carries.
abbrev pub protocol_of : List ℕ → ℕ
protocol_of bytes = slice_index bytes IPV4_PROTOCOL

-- Where the transport header begins: behind the IPv4 header with its options.
unfoldable pub transport_start : List ℕ → ℕ
transport_start bytes = ETHERNET_HEADER + 4 * header_words bytes

-- Where the datagram ends by its IPv4 total length, which counts from the IPv4 header on.
abbrev pub datagram_end : List ℕ → ℕ
datagram_end bytes = ETHERNET_HEADER + word_at bytes IPV4_TOTAL_LENGTH

-- The length of the fixed part of the transport header: TCP's, else UDP's.
abbrev pub fixed_header : ℕ → ℕ
fixed_header protocol = if protocol == TCP then TCP_HEADER else UDP_HEADER

-- Where the checksum stands in the transport header: TCP's, else UDP's.
abbrev pub checksum_place : ℕ → ℕ
checksum_place protocol = if protocol == TCP then TCP_CHECKSUM else UDP_CHECKSUM
