-- The packets that are generated: datagrams of UDP without data, from hosts of 10.0.0.0/24 to 198.51.100.10.
use Rattle.std.specs.Prelude.{ℕ, ◌+◌, ◌%◌, ◌==◌, List, [], ◌∷◌, ◌++◌, sum, if◌then◌else◌}
use Rattle.std.specs.Int.{w16, to_be_bytes}
use Rattle.ftc_packet.specs.Sum.{words, checksum_of}

-- the last byte of the source address; the sum has more than 32 bits
abbrev pub host_of : ℕ → ℕ → ℕ
host_of place seed = 1 + (place + seed) % 200

-- each tenth packet goes to another port
abbrev pub port_of : ℕ → ℕ
port_of place = if place % 10 == 9 then 81 else 80

-- from 02:00:00:00:00:02 to 02:00:00:00:00:01, with IPv4
abbrev pub ethernet : List ℕ
ethernet = 2 ∷ 0 ∷ 0 ∷ 0 ∷ 0 ∷ 1 ∷ 2 ∷ 0 ∷ 0 ∷ 0 ∷ 0 ∷ 2 ∷ 8 ∷ 0 ∷ []

-- the source and the destination
abbrev pub addresses : ℕ → List ℕ
addresses host = 10 ∷ 0 ∷ 0 ∷ host ∷ 198 ∷ 51 ∷ 100 ∷ 10 ∷ []

-- version 4 with five words, 28 bytes in all, an identification, no fragment, 64 hops and UDP; and a checksum
abbrev pub ipv4 : ℕ → ℕ → ℕ → List ℕ
ipv4 identification host checksum =
    0x45 ∷ 0 ∷ 0 ∷ 28 ∷ (to_be_bytes w16 identification
    ++ (0 ∷ 0 ∷ 64 ∷ 17 ∷ (to_be_bytes w16 checksum ++ addresses host)))

-- from port 5000, 8 bytes in all; and a checksum
abbrev pub udp : ℕ → ℕ → List ℕ
udp port checksum = to_be_bytes w16 5000 ++ (to_be_bytes w16 port ++ (0 ∷ 8 ∷ to_be_bytes w16 checksum))

-- the addresses, UDP and its length, which are under UDP's checksum
abbrev pub pseudo_header : ℕ → List ℕ
pseudo_header host = addresses host ++ (0 ∷ 17 ∷ 0 ∷ 8 ∷ [])

-- the checksum of some bytes, in which the checksum itself is 0
abbrev pub right_checksum : List ℕ → ℕ
right_checksum bytes = checksum_of (sum (words bytes))

-- UDP writes 0xffff where its checksum would be 0
abbrev pub shown_checksum : ℕ → ℕ
shown_checksum checksum = if checksum == 0 then 0xffff else checksum

abbrev pub ipv4_checksum : ℕ → ℕ → ℕ
ipv4_checksum identification host = right_checksum (ipv4 identification host 0)

abbrev pub udp_checksum : ℕ → ℕ → ℕ
udp_checksum host port = shown_checksum (right_checksum (pseudo_header host ++ udp port 0))

-- the packet at that place, from 0
abbrev pub packet_of : ℕ → ℕ → List ℕ
packet_of place seed =
    ethernet
    ++ (ipv4 (place % 65536) (host_of place seed) (ipv4_checksum (place % 65536) (host_of place seed))
    ++ udp (port_of place) (udp_checksum (host_of place seed) (port_of place)))
