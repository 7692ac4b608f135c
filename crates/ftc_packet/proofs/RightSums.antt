-- Why a rewrite keeps right sums right.
use Rattle.std.proofs.Common.{◌≡◌, ℕ, ◌+◌, ◌-◌, ◌/◌, ◌%◌, ◌<◌, ◌≤◌, ◌⊎◌, List, length, get_or, drop, arith, inl, inr}
use Rattle.std.proofs.Common.{sym, ap, ◌∙◌, refl}
use Rattle.std.proofs.lemmas.Bool.Decides.{nat_tests}
use Rattle.std.proofs.lemmas.List.{get_or-take, get_or-drop}
use Rattle.ftc_packet.specs.declared.rewrite.End.{End}
use Rattle.ftc_packet.specs.declared.rewrite.End.TheVariants.{Source, Destination}
use Rattle.ftc_packet.specs.Sum.{ones_complement, updated_checksum}
use Rattle.ftc_packet.specs.Layout.{AreBytes, checksum_place, datagram_end, protocol_of, transport_start, word_at}
use Rattle.ftc_packet.specs.Layout.{with_word}
use Rattle.ftc_packet.specs.Flow.{IsFlow}
use Rattle.ftc_packet.specs.Check.{HasNoChecksum, IsRight, IsWhole, header_sum, transport_sum}
use Rattle.ftc_packet.specs.Rewrite.{new_header_checksum, new_transport_checksum, port_place, with_end}
use Rattle.ftc_packet.specs.Rewrite.{written_checksum}
use Rattle.ftc_packet.proofs.Numbers.{right_along, right_with_full}
use Rattle.ftc_packet.proofs.Weights.{weighted}
use Rattle.ftc_packet.proofs.WordEdits.{part, length-part, word_at-part, length-with_word, with_word-sum}
use Rattle.ftc_packet.proofs.ListUpdates.{list_of_two_updates, list_of_three_updates}
use Rattle.ftc_packet.proofs.PacketSums.{addresses, header_sum-weighted, plain_sum, transport_sum-weighted}
use Rattle.ftc_packet.proofs.Rewritten.{part-rewritten_header, part-rewritten_segment}
use Rattle.ftc_packet.proofs.Rewritten.{word_at-rewritten_checksum}
use Rattle.ftc_packet.proofs.PacketRewrites.{IsFlow-packet, IsWhole-packet, checksum_places, end_places, end_words}
use Rattle.ftc_packet.proofs.PacketRewrites.{get-packet_front, header_place, length-packet, packet}
use Rattle.ftc_packet.proofs.PacketRewrites.{transport_start-packet, transport_start_least, with_end-packet}
use Rattle.ftc_packet.proofs.PacketRewrites.{word_at-packet_front}

-- The words that a rewrite changes are words.
record AreWords (bs : List ℕ) (end : End) : Type 0 where
  high : word_at bs (14 + header_place end) ≤ 65535
  low : word_at bs (14 + (header_place end + 2)) ≤ 65535
  port : word_at bs (transport_start bs + port_place end) ≤ 65535
  header_checksum : word_at bs 24 ≤ 65535
  transport_checksum : word_at bs (transport_start bs + checksum_place (protocol_of bs)) ≤ 65535

pub word_most : (bs : List ℕ) (at : ℕ) → AreBytes bs → word_at bs at ≤ 65535
unfolding word_at
word_most bs at bytes = omega (arith, bytes at, bytes (at + 1))

AreWords-bytes : (bs : List ℕ) (end : End) → AreBytes bs → AreWords bs end
AreWords-bytes bs end bytes = record {
  high = word_most bs (14 + header_place end) bytes;
  low = word_most bs (14 + (header_place end + 2)) bytes;
  port = word_most bs (transport_start bs + port_place end) bytes;
  header_checksum = word_most bs 24 bytes;
  transport_checksum = word_most bs (transport_start bs + checksum_place (protocol_of bs)) bytes;
}

-- The IPv4 checksum, updated for the words n₁ and n₂.
abbrev header_update : List ℕ → End → ℕ → ℕ → ℕ
header_update bs end n₁ n₂ =
    updated_checksum
    (updated_checksum (word_at bs 24) (word_at bs (14 + header_place end)) n₁)
    (word_at bs (14 + (header_place end + 2))) n₂

-- The transport checksum, updated for the words n₁, n₂ and n₃, before the rule for UDP.
abbrev transport_update : List ℕ → End → ℕ → ℕ → ℕ → ℕ
transport_update bs end n₁ n₂ n₃ =
    updated_checksum
    (updated_checksum
    (updated_checksum (word_at bs (transport_start bs + checksum_place (protocol_of bs)))
    (word_at bs (14 + header_place end)) n₁)
    (word_at bs (14 + (header_place end + 2))) n₂)
    (word_at bs (transport_start bs + port_place end)) n₃

-- The update of the IPv4 header, which has n bytes.
header_updates : (bs : List ℕ) (end : End) (n₁ n₂ n : ℕ) → AreWords bs end → 20 ≤ n → 14 + n ≤ length bs →
    0 < get_or bs 14 0 →
    ones_complement (weighted 0 (part 14 n bs)) ≡ 65535 →
    ones_complement (weighted 0
    (with_word (with_word (with_word (part 14 n bs) (header_place end) n₁) (header_place end + 2) n₂) 10
    (header_update bs end n₁ n₂))) ≡ 65535
header_updates bs end n₁ n₂ n fit hn hl above right =
    let i = header_place end in
    let places = end_places end in
    let h = part 14 n bs in
    let long : length h ≡ n = length-part 14 n bs hl in
    let first : get_or h 0 0 ≡ get_or bs 14 0 = get_or-take n (drop 14 bs) 0 0 (omega arith) ∙ get_or-drop 14 bs 0 0 in
    let c : word_at h 10 ≡ word_at bs 24 = word_at-part 14 n bs 10 (omega arith) in
    let m₁ : word_at h i ≡ word_at bs (14 + i) = word_at-part 14 n bs i (omega arith) in
    let m₂ : word_at h (i + 2) ≡ word_at bs (14 + (i + 2)) = word_at-part 14 n bs (i + 2) (omega arith) in
    let all = list_of_two_updates h i n₁ (i + 2) n₂ 10 0
    (omega (arith, c, fit.header_checksum)) (omega (arith, m₁, fit.high)) (omega (arith, m₂, fit.low))
    (omega arith) (omega arith) refl refl (inr (omega arith)) (inl (omega arith)) (inl (omega arith))
    (inl (omega arith)) (inl (omega arith)) (inl (omega arith))
    (omega arith) (omega arith) (omega arith) (omega arith) right in
    rw (c, m₁, m₂) at all

-- The update of the segment, which has n bytes: p is the sum of the pseudo header's words that stay.
segment_updates : (bs : List ℕ) (end : End) (p n₁ n₂ n₃ n : ℕ) → AreWords bs end → IsFlow bs → 0 < p →
    checksum_place (protocol_of bs) + 1 < n → transport_start bs + n ≤ length bs →
    ones_complement (p + word_at bs (14 + header_place end) + word_at bs (14 + (header_place end + 2))
    + weighted 0 (part (transport_start bs) n bs)) ≡ 65535 →
    ones_complement (p + n₁ + n₂
    + weighted 0 (with_word (with_word (part (transport_start bs) n bs) (port_place end) n₃)
    (checksum_place (protocol_of bs)) (transport_update bs end n₁ n₂ n₃))) ≡ 65535
segment_updates bs end p n₁ n₂ n₃ n fit flow above hk hl right =
    let t = transport_start bs in
    let j = port_place end in
    let k = checksum_place (protocol_of bs) in
    let places = end_places end in
    let of_checksum = checksum_places (protocol_of bs) flow.carries in
    let s = part t n bs in
    let long : length s ≡ n = length-part t n bs hl in
    let c : word_at s k ≡ word_at bs (t + k) = word_at-part t n bs k hk in
    let m₃ : word_at s j ≡ word_at bs (t + j) = word_at-part t n bs j (omega arith) in
    let all = list_of_three_updates s p (word_at bs (14 + header_place end)) n₁
    (word_at bs (14 + (header_place end + 2))) n₂ j n₃ k above
    (omega (arith, c, fit.transport_checksum)) fit.high fit.low (omega (arith, m₃, fit.port))
    (omega arith) of_checksum.0 (inr (omega arith)) (omega arith) (omega arith) right in
    rw (c, m₃) at all

-- A checksum of 0 may be 65535 instead.
either_zero : (xs : List ℕ) (q k w x : ℕ) → k % 2 ≡ 0 → k + 1 < length xs → (w ≡ x) ⊎ ((x ≡ 0) × (w ≡ 65535)) →
    ones_complement (q + weighted 0 (with_word xs k x)) ≡ 65535 →
    ones_complement (q + weighted 0 (with_word xs k w)) ≡ 65535
either_zero xs q k w x ek hk (inl same) right = rw same right
either_zero xs q k w x ek hk (inr zeros) right =
    let none = with_word-sum xs k 0 ek hk in
    let full = with_word-sum xs k 65535 ek hk in
    let zero : ones_complement (q + weighted 0 (with_word xs k 0)) ≡ 65535 = rw zeros.0 at right in
    rw zeros.1 (right_along (q + weighted 0 (with_word xs k 0) + 65535) _ (omega arith) (right_with_full _ zero))

-- The transport checksum is 0 where UDP has none; else it is the update's, or 65535 for 0.
written_cases : (protocol before after : ℕ) →
    ((protocol ≡ 17) × (before ≡ 0) × (written_checksum protocol before after ≡ 0))
    ⊎ ((protocol ≡ 17 → before ≡ 0 → ⊥)
    × ((written_checksum protocol before after ≡ after)
    ⊎ ((after ≡ 0) × (written_checksum protocol before after ≡ 65535))))
written_cases protocol before after = grind (arith, nat_tests)

-- The IPv4 checksum stays right.
header_stays_right : (bs : List ℕ) (end : End) (n₁ n₂ c n₃ w : ℕ) → AreWords bs end → IsFlow bs →
    c ≡ header_update bs end n₁ n₂ →
    header_sum bs ≡ 65535 → header_sum (packet bs end n₁ n₂ c n₃ w) ≡ 65535
unfolding packet
header_stays_right bs end n₁ n₂ c n₃ w fit flow is right =
    let t = transport_start bs in
    let n = t - 14 in
    let i = header_place end in
    let least = transport_start_least bs flow in
    let et : t ≡ 14 + n = omega arith in
    let before = sym (header_sum-weighted bs n et) ∙ right in
    let after = header_updates bs end n₁ n₂ n fit (omega arith) (omega (arith, flow.header_captured))
    (omega (arith, flow.version)) before in
    let shape = part-rewritten_header bs i n₁ n₂ c t (port_place end) n₃ (checksum_place (protocol_of bs)) w n et
    (omega arith) (omega (arith, end_places end)) in
    let sum = header_sum-weighted (packet bs end n₁ n₂ c n₃ w) n
    (transport_start-packet bs end n₁ n₂ c n₃ w flow ∙ et) in
    rw (sum, shape, is) after

-- What stays of the addresses' words beside the two that change.
record StayBeside (bs new : List ℕ) (m₁ m₂ n₁ n₂ : ℕ) : Type 0 where
  rest : ℕ
  before : addresses bs ≡ rest + m₁ + m₂
  after : addresses new ≡ rest + n₁ + n₂

addresses_stay : (bs : List ℕ) (end : End) (n₁ n₂ c n₃ w : ℕ) → IsFlow bs →
    StayBeside bs (packet bs end n₁ n₂ c n₃ w) (word_at bs (14 + header_place end))
    (word_at bs (14 + (header_place end + 2))) n₁ n₂
unfolding addresses
addresses_stay bs Source n₁ n₂ c n₃ w flow =
    let words = end_words bs Source n₁ n₂ c n₃ w flow in
    record {
      rest = word_at bs 30 + word_at bs 32;
      before = omega arith;
      after = omega (arith, words.high, words.low, words.other_high, words.other_low);
    }
addresses_stay bs Destination n₁ n₂ c n₃ w flow =
    let words = end_words bs Destination n₁ n₂ c n₃ w flow in
    record {
      rest = word_at bs 26 + word_at bs 28;
      before = omega arith;
      after = omega (arith, words.high, words.low, words.other_high, words.other_low);
    }

-- The transport checksum stays right, where the update's is written, or 65535 for 0.
transport_stays_right : (bs : List ℕ) (end : End) (n₁ n₂ c n₃ w : ℕ) → AreWords bs end → IsFlow bs → IsWhole bs →
    (w ≡ transport_update bs end n₁ n₂ n₃) ⊎ ((transport_update bs end n₁ n₂ n₃ ≡ 0) × (w ≡ 65535)) →
    transport_sum bs ≡ 65535 → transport_sum (packet bs end n₁ n₂ c n₃ w) ≡ 65535
unfolding packet
transport_stays_right bs end n₁ n₂ c n₃ w fit flow whole how right =
    let t = transport_start bs in
    let b = protocol_of bs in
    let i = header_place end in
    let j = port_place end in
    let k = checksum_place b in
    let n = datagram_end bs - t in
    let m₁ = word_at bs (14 + i) in
    let m₂ = word_at bs (14 + (i + 2)) in
    let s = part t n bs in
    let new = packet bs end n₁ n₂ c n₃ w in
    let least = transport_start_least bs flow in
    let places = end_places end in
    let of_checksum = checksum_places b flow.carries in
    let en : datagram_end bs ≡ t + n = omega (arith, whole.has_headers) in
    let hk : k + 1 < n = omega (arith, of_checksum.2, whole.has_headers) in
    let fits : t + n ≤ length bs = omega (arith, whole.captured) in
    let stay = addresses_stay bs end n₁ n₂ c n₃ w flow in
    let p = stay.rest + b + n in
    let before : ones_complement (p + m₁ + m₂ + weighted 0 s) ≡ 65535 =
    right_along (plain_sum bs t n) _ (omega (arith, stay.before))
    (sym (transport_sum-weighted bs t n flow.captured refl en) ∙ right) in
    let plain = segment_updates bs end p n₁ n₂ n₃ n fit flow (omega arith) hk fits before in
    let ys = with_word s j n₃ in
    let long : length ys ≡ n = length-with_word s j n₃ ∙ length-part t n bs fits in
    let after = either_zero ys (p + n₁ + n₂) k w (transport_update bs end n₁ n₂ n₃) of_checksum.0
    (omega arith) how plain in
    let shape = ap (weighted 0)
    (part-rewritten_segment bs i n₁ n₂ c t j n₃ k w n least (omega arith) (omega arith) hk) in
    let start = transport_start-packet bs end n₁ n₂ c n₃ w flow in
    let protocol = get-packet_front bs end n₁ n₂ c n₃ w 23 flow (omega arith) in
    let total = word_at-packet_front bs end n₁ n₂ c n₃ w 16 flow (omega arith) in
    let sum = transport_sum-weighted new t n (omega (arith, flow.captured, length-packet bs end n₁ n₂ c n₃ w)) start
    (omega arith) in
    sum ∙ right_along (p + n₁ + n₂ + weighted 0 (with_word ys k w)) _ (omega (arith, shape, protocol, stay.after)) after

-- UDP that has no checksum still has none.
HasNoChecksum-packet : (bs : List ℕ) (end : End) (n₁ n₂ c n₃ w : ℕ) → IsFlow bs → protocol_of bs ≡ 17 → w ≡ 0 →
    HasNoChecksum (packet bs end n₁ n₂ c n₃ w)
unfolding packet
HasNoChecksum-packet bs end n₁ n₂ c n₃ w flow udp none =
    let t = transport_start bs in
    let b = protocol_of bs in
    let k = checksum_place b in
    let ek : k ≡ 6 = ap checksum_place udp in
    let of_checksum = checksum_places b flow.carries in
    let last = word_at-rewritten_checksum bs (header_place end) n₁ n₂ c t (port_place end) n₃ k w
    (omega (arith, of_checksum.2, flow.transport_captured)) in
    let start = transport_start-packet bs end n₁ n₂ c n₃ w flow in
    let place : transport_start (packet bs end n₁ n₂ c n₃ w) + 6 ≡ t + k = omega (arith, start, ek) in
    record {
      udp = get-packet_front bs end n₁ n₂ c n₃ w 23 flow (omega arith) ∙ udp;
      zero = ap (word_at (packet bs end n₁ n₂ c n₃ w)) place ∙ last ∙ none;
    }

-- A packet that has a transport checksum has a right one.
has_checksum : (bs : List ℕ) → (transport_sum bs ≡ 65535) ⊎ HasNoChecksum bs →
    (protocol_of bs ≡ 17 → word_at bs (transport_start bs + checksum_place (protocol_of bs)) ≡ 0 → ⊥) →
    transport_sum bs ≡ 65535
has_checksum bs (inl right) has = right
has_checksum bs (inr none) has =
    absurd (has none.udp (ap (λ (p : ℕ). word_at bs (transport_start bs + checksum_place p)) none.udp ∙ none.zero))

-- Both checksums stay right.
packet_stays_right : (bs : List ℕ) (end : End) (n₁ n₂ c n₃ w : ℕ) → AreWords bs end → c ≡ header_update bs end n₁ n₂ →
    w ≡ written_checksum (protocol_of bs) (word_at bs (transport_start bs + checksum_place (protocol_of bs)))
    (transport_update bs end n₁ n₂ n₃) →
    IsRight bs → IsRight (packet bs end n₁ n₂ c n₃ w)
packet_stays_right bs end n₁ n₂ c n₃ w fit header transport right =
    let flow = right.flow in
    let old = word_at bs (transport_start bs + checksum_place (protocol_of bs)) in
    record {
      flow = IsFlow-packet bs end n₁ n₂ c n₃ w flow;
      whole = IsWhole-packet bs end n₁ n₂ c n₃ w flow right.whole;
      sums = record {
        header = header_stays_right bs end n₁ n₂ c n₃ w fit flow header right.sums.header;
        transport = elim (written_cases (protocol_of bs) old (transport_update bs end n₁ n₂ n₃)) [
          | inl none ↦ inr (HasNoChecksum-packet bs end n₁ n₂ c n₃ w flow none.0 (transport ∙ none.2))
          | inr has ↦ inl (transport_stays_right bs end n₁ n₂ c n₃ w fit flow right.whole
              (elim has.1 [ inl same ↦ inl (transport ∙ same) | inr zeros ↦ inr (zeros.0, transport ∙ zeros.1) ])
              (has_checksum bs right.sums.transport has.0))
        ];
      };
    }

-- THE LAW of a rewrite: a right packet stays right.
pub with_end_stays_right : (bs : List ℕ) (end : End) (address port : ℕ) → AreBytes bs → IsRight bs →
    IsRight (with_end bs end address port)
unfolding new_header_checksum new_transport_checksum
with_end_stays_right bs Source address port bytes right =
    rw (with_end-packet bs Source address port) (packet_stays_right bs Source (address / 65536) (address % 65536)
    (new_header_checksum bs Source address) port (new_transport_checksum bs Source address port)
    (AreWords-bytes bs Source bytes) refl refl right)
with_end_stays_right bs Destination address port bytes right =
    rw (with_end-packet bs Destination address port)
    (packet_stays_right bs Destination (address / 65536) (address % 65536)
    (new_header_checksum bs Destination address) port (new_transport_checksum bs Destination address port)
    (AreWords-bytes bs Destination bytes) refl refl right)
