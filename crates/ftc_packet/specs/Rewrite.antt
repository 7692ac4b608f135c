-- What a flow packet becomes once one end of its flow has another address and port.
use Rattle.std.specs.Prelude.{◌≡◌, ℕ, ◌+◌, ◌/◌, ◌%◌, ◌<◌, ◌≤◌, ◌⊎◌, ◌&&◌, ◌==◌, List, if◌then◌else◌, slice_index}
use Rattle.ftc_packet.specs.declared.layout.TheConstants.{IPV4_CHECKSUM, IPV4_SOURCE, IPV4_DESTINATION, SOURCE_PORT}
use Rattle.ftc_packet.specs.declared.layout.TheConstants.{DESTINATION_PORT, UDP}
use Rattle.ftc_packet.specs.declared.rewrite.End.{End}
use Rattle.ftc_packet.specs.declared.rewrite.End.TheVariants.{Source, Destination}
use Rattle.ftc_packet.specs.Layout.{word_at, with_word, protocol_of, transport_start, checksum_place}
use Rattle.ftc_packet.specs.Sum.{updated_checksum}

-- Where an end's address stands.
abbrev pub address_place : End → ℕ
address_place Source = IPV4_SOURCE
address_place Destination = IPV4_DESTINATION

-- Where an end's port stands in the transport header.
abbrev pub port_place : End → ℕ
port_place Source = SOURCE_PORT
port_place Destination = DESTINATION_PORT

-- The transport checksum that is written where it was `before` and the update gives `after`: UDP's 0, which says that
-- there is none, stays, and UDP's checksum never becomes 0, since 0xffff is the same number in one's complement.
abbrev pub written_checksum : ℕ → ℕ → ℕ → ℕ
written_checksum protocol before after =
    if protocol == UDP && before == 0 then 0 else if protocol == UDP && after == 0 then 0xffff else after

-- A checksum once the address at a place, which is under it, has become another: the high word first.
abbrev pub updated_for_address : ℕ → List ℕ → ℕ → ℕ → ℕ
updated_for_address checksum bytes at address =
    updated_checksum
    (updated_checksum checksum (word_at bytes at) (address / 65536)) (word_at bytes (at + 2)) (address % 65536)

-- The IPv4 header checksum once an end has another address.
unfoldable pub new_header_checksum : List ℕ → End → ℕ → ℕ
new_header_checksum bytes end address =
    updated_for_address (word_at bytes IPV4_CHECKSUM) bytes (address_place end) address

-- The transport checksum once an end has another address and port, in this order.
unfoldable pub new_transport_checksum : List ℕ → End → ℕ → ℕ → ℕ
new_transport_checksum bytes end address port =
    let checksum = word_at bytes (transport_start bytes + checksum_place (protocol_of bytes)) in
    written_checksum (protocol_of bytes) checksum
    (updated_checksum
    (updated_for_address checksum bytes (address_place end) address)
    (word_at bytes (transport_start bytes + port_place end)) port)

-- The packet with another address at a place.
abbrev pub with_address : List ℕ → ℕ → ℕ → List ℕ
with_address bytes at address = with_word (with_word bytes at (address / 65536)) (at + 2) (address % 65536)

-- The packet with another address and port at an end, and both checksums updated for them.
unfoldable pub with_end : List ℕ → End → ℕ → ℕ → List ℕ
with_end bytes end address port =
    let addressed = with_address bytes (address_place end) address in
    let headed = with_word addressed IPV4_CHECKSUM (new_header_checksum bytes end address) in
    let ported = with_word headed (transport_start bytes + port_place end) port in
    with_word ported (transport_start bytes + checksum_place (protocol_of bytes))
    (new_transport_checksum bytes end address port)

-- The packet with another source address and port, and both checksums updated for them.
abbrev pub with_source : List ℕ → ℕ → ℕ → List ℕ
with_source bytes address port = with_end bytes Source address port

-- The packet with another destination address and port, and both checksums updated for them.
abbrev pub with_destination : List ℕ → ℕ → ℕ → List ℕ
with_destination bytes address port = with_end bytes Destination address port

-- The place is none of the `count` bytes from the place `at` on.
abbrev pub IsOutside : ℕ → ℕ → ℕ → Type 0
IsOutside at count place = (place < at) ⊎ (at + count ≤ place)

-- The place holds nothing of the end's address, of its port or of either checksum.
pub record IsBeyondEnd (bytes : List ℕ) (end : End) (place : ℕ) : Type 0 where
  pub address : IsOutside (address_place end) 4 place
  pub header_checksum : IsOutside IPV4_CHECKSUM 2 place
  pub port : IsOutside (transport_start bytes + port_place end) 2 place
  pub transport_checksum : IsOutside (transport_start bytes + checksum_place (protocol_of bytes)) 2 place

-- Every byte beyond the end and the checksums is as it was.
abbrev pub ChangesOnlyEnd : End → List ℕ → List ℕ → Type 0
ChangesOnlyEnd end old new = (place : ℕ) → IsBeyondEnd old end place → slice_index new place ≡ slice_index old place

-- Every byte is as it was but those of the source's address and port and of the checksums.
abbrev pub ChangesOnlySource : List ℕ → List ℕ → Type 0
ChangesOnlySource old new = ChangesOnlyEnd Source old new

-- Every byte is as it was but those of the destination's address and port and of the checksums.
abbrev pub ChangesOnlyDestination : List ℕ → List ℕ → Type 0
ChangesOnlyDestination old new = ChangesOnlyEnd Destination old new
