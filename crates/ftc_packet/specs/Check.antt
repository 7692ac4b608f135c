-- When the two checksums of a flow packet are right, by the whole sum that each of them is under.
use Rattle.std.specs.Prelude.{◌≡◌, ℕ, ◌+◌, ◌-◌, ◌/◌, ◌%◌, ◌≤◌, ◌⊎◌, List, [], ◌∷◌, ◌++◌, length, slice_range}
use Rattle.ftc_packet.specs.declared.layout.TheConstants.{ETHERNET_HEADER, IPV4_SOURCE, IPV4_OPTIONS, UDP, UDP_CHECKSUM}
use Rattle.ftc_packet.specs.Flow.{IsFlow}
use Rattle.ftc_packet.specs.Layout.{word_at, protocol_of, transport_start, datagram_end, fixed_header}
use Rattle.ftc_packet.specs.Sum.{ones_complement_sum}

-- The datagram is captured whole: its total length has room for the transport header, and all of it is there.
pub record IsWhole (bytes : List ℕ) : Type 0 where
  pub has_headers : transport_start bytes + fixed_header (protocol_of bytes) ≤ datagram_end bytes
  pub captured : datagram_end bytes ≤ length bytes

-- The IPv4 header with its options.
unfoldable pub ipv4_header : List ℕ → List ℕ
ipv4_header bytes = slice_range bytes ETHERNET_HEADER (transport_start bytes)

-- The datagram behind its IPv4 header.
unfoldable pub segment : List ℕ → List ℕ
segment bytes = slice_range bytes (transport_start bytes) (datagram_end bytes)

-- The length of the segment by the IPv4 total length, which the pseudo header carries for UDP too.
abbrev pub segment_length : List ℕ → ℕ
segment_length bytes = datagram_end bytes - transport_start bytes

-- The pseudo header: both addresses, a zero byte, the protocol, and the segment's length in 16 bits.
unfoldable pub pseudo_header : List ℕ → List ℕ
pseudo_header bytes =
    slice_range bytes IPV4_SOURCE IPV4_OPTIONS
    ++ 0 ∷ protocol_of bytes ∷ segment_length bytes / 256 ∷ segment_length bytes % 256 ∷ []

-- The one's complement sum over the IPv4 header.
unfoldable pub header_sum : List ℕ → ℕ
header_sum bytes = ones_complement_sum (ipv4_header bytes)

-- The one's complement sum over the pseudo header and the segment.
unfoldable pub transport_sum : List ℕ → ℕ
transport_sum bytes = ones_complement_sum (pseudo_header bytes ++ segment bytes)

-- UDP without a checksum, which says so by 0.
pub record HasNoChecksum (bytes : List ℕ) : Type 0 where
  pub udp : protocol_of bytes ≡ UDP
  pub zero : word_at bytes (transport_start bytes + UDP_CHECKSUM) ≡ 0

-- Both checksums are right: with its checksum, each sum is 0xffff, or UDP has none.
pub record AreSumsRight (bytes : List ℕ) : Type 0 where
  pub header : header_sum bytes ≡ 0xffff
  pub transport : (transport_sum bytes ≡ 0xffff) ⊎ HasNoChecksum bytes

-- A flow packet, captured whole, with both checksums right.
pub record IsRight (bytes : List ℕ) : Type 0 where
  pub flow : IsFlow bytes
  pub whole : IsWhole bytes
  pub sums : AreSumsRight bytes
