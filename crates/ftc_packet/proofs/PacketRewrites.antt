-- A rewritten flow packet: what it is, what it names, and which bytes stay.
use Rattle.std.proofs.Common.{◌≡◌, ℕ, ◌+◌, ◌*◌, ◌/◌, ◌%◌, ◌<◌, ◌≤◌, ◌⊎◌, List, length, get_or, arith, inl, inr, subst}
use Rattle.std.proofs.Common.{ap, ◌∙◌, refl}
use Rattle.ftc_packet.specs.declared.rewrite.End.{End}
use Rattle.ftc_packet.specs.declared.rewrite.End.TheVariants.{Source, Destination}
use Rattle.ftc_packet.specs.Layout.{checksum_place, fixed_header, protocol_of, transport_start, word_at}
use Rattle.ftc_packet.specs.Flow.{IsFlow, flow_in}
use Rattle.ftc_packet.specs.Check.{IsWhole}
use Rattle.ftc_packet.specs.Rewrite.{ChangesOnlyEnd, address_place, new_header_checksum, new_transport_checksum}
use Rattle.ftc_packet.specs.Rewrite.{port_place, with_end}
use Rattle.ftc_packet.proofs.Rewritten.{rewritten, length-rewritten, get-rewritten_apart, get-rewritten_front}
use Rattle.ftc_packet.proofs.Rewritten.{word_at-rewritten_apart, word_at-rewritten_high, word_at-rewritten_low}
use Rattle.ftc_packet.proofs.Rewritten.{word_at-rewritten_port}

-- Where an end's address stands in the IPv4 header.
abbrev pub header_place : End → ℕ
header_place Source = 12
header_place Destination = 16

address_place-header : (end : End) → address_place end ≡ 14 + header_place end
address_place-header Source = refl
address_place-header Destination = refl

-- The places of the two ends.
pub end_places : (end : End) →
    ((header_place end ≡ 12) × (port_place end ≡ 0)) ⊎ ((header_place end ≡ 16) × (port_place end ≡ 2))
end_places Source = inl (refl, refl)
end_places Destination = inr (refl, refl)

-- The place of the checksum in the two transport headers.
pub checksum_places : (protocol : ℕ) → (protocol ≡ 6) ⊎ (protocol ≡ 17) →
    (checksum_place protocol % 2 ≡ 0) × (6 ≤ checksum_place protocol)
    × (checksum_place protocol + 1 < fixed_header protocol)
checksum_places protocol (inl tcp) =
    let place = ap checksum_place tcp in
    let header = ap fixed_header tcp in
    (omega (arith, place), omega (arith, place), omega (arith, place, header))
checksum_places protocol (inr udp) =
    let place = ap checksum_place udp in
    let header = ap fixed_header udp in
    (omega (arith, place), omega (arith, place), omega (arith, place, header))

-- The packet bs once an end has the address n₁ n₂ and the port n₃, and the checksums are c and w.
unfoldable pub packet : List ℕ → End → ℕ → ℕ → ℕ → ℕ → ℕ → List ℕ
packet bs end n₁ n₂ c n₃ w =
    rewritten bs (header_place end) n₁ n₂ c (transport_start bs) (port_place end) n₃ (checksum_place (protocol_of bs)) w

-- A rewrite writes those words.
pub with_end-packet : (bs : List ℕ) (end : End) (address port : ℕ) →
    with_end bs end address port
    ≡ packet bs end (address / 65536) (address % 65536) (new_header_checksum bs end address) port
    (new_transport_checksum bs end address port)
unfolding with_end packet rewritten
with_end-packet bs Source address port = refl
with_end-packet bs Destination address port = refl

pub transport_start_least : (bs : List ℕ) → IsFlow bs → 34 ≤ transport_start bs
unfolding transport_start
transport_start_least bs flow = omega (arith, flow.header_length)

pub length-packet : (bs : List ℕ) (end : End) (n₁ n₂ c n₃ w : ℕ) → length (packet bs end n₁ n₂ c n₃ w) ≡ length bs
unfolding packet
length-packet bs end n₁ n₂ c n₃ w =
    length-rewritten bs (header_place end) n₁ n₂ c (transport_start bs) (port_place end) n₃
    (checksum_place (protocol_of bs)) w

pub get-packet_front : (bs : List ℕ) (end : End) (n₁ n₂ c n₃ w e : ℕ) → IsFlow bs → e < 24 →
    get_or (packet bs end n₁ n₂ c n₃ w) e 0 ≡ get_or bs e 0
unfolding packet
get-packet_front bs end n₁ n₂ c n₃ w e flow he =
    get-rewritten_front bs (header_place end) n₁ n₂ c (transport_start bs) (port_place end) n₃
    (checksum_place (protocol_of bs)) w e
    (omega (arith, end_places end)) (transport_start_least bs flow) he

pub word_at-packet_front : (bs : List ℕ) (end : End) (n₁ n₂ c n₃ w e : ℕ) → IsFlow bs → e < 23 →
    word_at (packet bs end n₁ n₂ c n₃ w) e ≡ word_at bs e
unfolding word_at
word_at-packet_front bs end n₁ n₂ c n₃ w e flow he =
    let high = get-packet_front bs end n₁ n₂ c n₃ w e flow (omega arith) in
    let low = get-packet_front bs end n₁ n₂ c n₃ w (e + 1) flow (omega arith) in
    omega (arith, high, low)

pub transport_start-packet : (bs : List ℕ) (end : End) (n₁ n₂ c n₃ w : ℕ) → IsFlow bs →
    transport_start (packet bs end n₁ n₂ c n₃ w) ≡ transport_start bs
unfolding transport_start
transport_start-packet bs end n₁ n₂ c n₃ w flow =
    ap (λ (b : ℕ). 14 + 4 * (b % 16)) (get-packet_front bs end n₁ n₂ c n₃ w 14 flow (omega arith))

-- It is still a flow packet.
pub IsFlow-packet : (bs : List ℕ) (end : End) (n₁ n₂ c n₃ w : ℕ) → IsFlow bs → IsFlow (packet bs end n₁ n₂ c n₃ w)
IsFlow-packet bs end n₁ n₂ c n₃ w flow =
    let long = length-packet bs end n₁ n₂ c n₃ w in
    let start = transport_start-packet bs end n₁ n₂ c n₃ w flow in
    let version = get-packet_front bs end n₁ n₂ c n₃ w 14 flow (omega arith) in
    let protocol = get-packet_front bs end n₁ n₂ c n₃ w 23 flow (omega arith) in
    let ethertype = word_at-packet_front bs end n₁ n₂ c n₃ w 12 flow (omega arith) in
    let fragment = word_at-packet_front bs end n₁ n₂ c n₃ w 20 flow (omega arith) in
    record {
      captured = omega (arith, flow.captured);
      ethertype = ethertype ∙ flow.ethertype;
      version = rw version flow.version;
      header_length = rw version flow.header_length;
      header_captured = omega (arith, flow.header_captured);
      last_fragment = rw fragment flow.last_fragment;
      first_fragment = rw fragment flow.first_fragment;
      carries = rw protocol flow.carries;
      transport_captured = rw (protocol, start, long) flow.transport_captured;
    }

pub IsFlow-with_end : (bs : List ℕ) (end : End) (address port : ℕ) → IsFlow bs → IsFlow (with_end bs end address port)
IsFlow-with_end bs end address port flow =
    rw (with_end-packet bs end address port) (IsFlow-packet bs end (address / 65536) (address % 65536)
    (new_header_checksum bs end address) port (new_transport_checksum bs end address port) flow)

-- It is still whole.
pub IsWhole-packet : (bs : List ℕ) (end : End) (n₁ n₂ c n₃ w : ℕ) → IsFlow bs → IsWhole bs →
    IsWhole (packet bs end n₁ n₂ c n₃ w)
IsWhole-packet bs end n₁ n₂ c n₃ w flow whole =
    let long = length-packet bs end n₁ n₂ c n₃ w in
    let start = transport_start-packet bs end n₁ n₂ c n₃ w flow in
    let protocol = get-packet_front bs end n₁ n₂ c n₃ w 23 flow (omega arith) in
    let total = word_at-packet_front bs end n₁ n₂ c n₃ w 16 flow (omega arith) in
    record { has_headers = rw (protocol, start, total) whole.has_headers; captured = omega (arith, whole.captured) }

-- All other bytes stay.
pub others_stay : (bs : List ℕ) (end : End) (address port : ℕ) → ChangesOnlyEnd end bs (with_end bs end address port)
unfolding packet
others_stay bs end address port k beyond =
    let place = address_place-header end in
    let outside : (k < 14 + header_place end) ⊎ (14 + header_place end + 4 ≤ k) =
    subst (λ (at : ℕ). (k < at) ⊎ (at + 4 ≤ k)) place beyond.address in
    ap (λ (xs : List ℕ). get_or xs k 0) (with_end-packet bs end address port)
    ∙ get-rewritten_apart bs (header_place end) _ _ _ (transport_start bs) (port_place end) _
    (checksum_place (protocol_of bs)) _ k
    outside beyond.header_checksum beyond.port beyond.transport_checksum

-- The fields of a flow, read one by one.
flow_in-fields : (b : List ℕ) (p h₁ h₂ sp d₁ d₂ dp t : ℕ) → transport_start b ≡ t → get_or b 23 0 ≡ p →
    word_at b 26 ≡ h₁ → word_at b 28 ≡ h₂ → word_at b (t + 0) ≡ sp → word_at b 30 ≡ d₁ → word_at b 32 ≡ d₂ →
    word_at b (t + 2) ≡ dp →
    flow_in b ≡ record {
      protocol = p;
      source = 65536 * h₁ + h₂;
      source_port = sp;
      destination = 65536 * d₁ + d₂;
      destination_port = dp;
    }
unfolding flow_in
flow_in-fields b p h₁ h₂ sp d₁ d₂ dp t e₁ e₂ e₃ e₄ e₅ e₆ e₇ e₈ = rw (e₁, e₂, e₃, e₄, e₅, e₆, e₇, e₈) refl

address-halves : (address : ℕ) → 65536 * (address / 65536) + address % 65536 ≡ address
address-halves address = omega arith

-- The end that stays.
abbrev pub other_end : End → End
other_end Source = Destination
other_end Destination = Source

-- A rewritten packet has the words n₁, n₂ and n₃ at one end, and what it had of the other end and of the protocol.
pub record AreEndWords (bs new : List ℕ) (end : End) (n₁ n₂ n₃ : ℕ) : Type 0 where
  pub start : transport_start new ≡ transport_start bs
  pub protocol : get_or new 23 0 ≡ get_or bs 23 0
  pub high : word_at new (14 + header_place end) ≡ n₁
  pub low : word_at new (14 + (header_place end + 2)) ≡ n₂
  pub port : word_at new (transport_start bs + port_place end) ≡ n₃
  pub other_high : word_at new (14 + header_place (other_end end)) ≡ word_at bs (14 + header_place (other_end end))
  pub other_low : word_at new (14 + (header_place (other_end end) + 2))
      ≡ word_at bs (14 + (header_place (other_end end) + 2))
  pub other_port : word_at new (transport_start bs + port_place (other_end end))
      ≡ word_at bs (transport_start bs + port_place (other_end end))

other_places : (end : End) → (header_place end + header_place (other_end end) ≡ 28)
    × (port_place end + port_place (other_end end) ≡ 2)
other_places Source = (refl, refl)
other_places Destination = (refl, refl)

pub end_words : (bs : List ℕ) (end : End) (n₁ n₂ c n₃ w : ℕ) → IsFlow bs →
    AreEndWords bs (packet bs end n₁ n₂ c n₃ w) end n₁ n₂ n₃
unfolding packet
end_words bs end n₁ n₂ c n₃ w flow =
    let t = transport_start bs in
    let i = header_place end in
    let j = port_place end in
    let k = checksum_place (protocol_of bs) in
    let places = end_places end in
    let other = other_places end in
    let least = transport_start_least bs flow in
    let of_checksum = checksum_places (protocol_of bs) flow.carries in
    let stays : (e : ℕ) → (e + 1 < 14 + i) ⊎ (14 + i + 4 ≤ e) → 26 ≤ e → (e + 1 < t + j) ⊎ (t + j + 2 ≤ e) →
    e + 1 < t + k → word_at (packet bs end n₁ n₂ c n₃ w) e ≡ word_at bs e =
    λ e address header port checksum.
    word_at-rewritten_apart bs i n₁ n₂ c t j n₃ k w e address (inr header) port (inl checksum) in
    record {
      start = transport_start-packet bs end n₁ n₂ c n₃ w flow;
      protocol = get-packet_front bs end n₁ n₂ c n₃ w 23 flow (omega arith);
      high = word_at-rewritten_high bs i n₁ n₂ c t j n₃ k w least flow.header_captured (omega arith) (omega arith);
      low = word_at-rewritten_low bs i n₁ n₂ c t j n₃ k w least flow.header_captured (omega arith) (omega arith);
      port = word_at-rewritten_port bs i n₁ n₂ c t j n₃ k w (omega (arith, of_checksum.1))
          (omega (arith, of_checksum.2, flow.transport_captured));
      other_high = stays _ (grind (arith, places, other)) (omega arith) (inl (omega arith)) (omega arith);
      other_low = stays _ (grind (arith, places, other)) (omega arith) (inl (omega arith)) (omega arith);
      other_port = stays _ (inr (omega arith)) (omega arith) (grind (arith, places, other))
          (omega (arith, of_checksum.1));
    }

with_end-words : (bs : List ℕ) (end : End) (address port : ℕ) → IsFlow bs →
    AreEndWords bs (with_end bs end address port) end (address / 65536) (address % 65536) port
with_end-words bs end address port flow =
    rw (with_end-packet bs end address port) (end_words bs end (address / 65536) (address % 65536)
    (new_header_checksum bs end address) port (new_transport_checksum bs end address port) flow)

-- The flow that is named once the source is another.
pub flow_in-with_source : (bs : List ℕ) (address port : ℕ) → IsFlow bs →
    flow_in (with_end bs Source address port) ≡ record (flow_in bs) { source = address; source_port = port }
unfolding flow_in
flow_in-with_source bs address port flow =
    let words = with_end-words bs Source address port flow in
    let all = flow_in-fields (with_end bs Source address port) _ _ _ port _ _ _ _ words.start words.protocol
    words.high words.low words.port words.other_high words.other_low words.other_port in
    rw (address-halves address) at all

-- The flow that is named once the destination is another.
pub flow_in-with_destination : (bs : List ℕ) (address port : ℕ) → IsFlow bs →
    flow_in (with_end bs Destination address port) ≡ record (flow_in bs) {
      destination = address;
      destination_port = port;
    }
unfolding flow_in
flow_in-with_destination bs address port flow =
    let words = with_end-words bs Destination address port flow in
    let all = flow_in-fields (with_end bs Destination address port) _ _ _ _ _ _ port _ words.start words.protocol
    words.other_high words.other_low words.other_port words.high words.low words.port in
    rw (address-halves address) at all
