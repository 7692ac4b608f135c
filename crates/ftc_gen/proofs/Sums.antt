-- The sums of the words of a generated packet.
use Rattle.std.proofs.Common.{◌≡◌, ◌≢◌, ◌≤◌, ◌<◌, ◌+◌, ◌-◌, ◌%◌, ◌==◌, ◌++◌, ◌∙◌, ℕ, suc, List, true, false, sum, arith}
use Rattle.std.proofs.Common.{refl, sym, ap, append_assoc, add-one, eqb-true}
use Rattle.std.specs.Prelude.{if◌then◌else◌}
use Rattle.ftc_packet.specs.Sum.{words, ones_complement, checksum_of}
use Rattle.ftc_gen.specs.Packet.{ipv4, udp, pseudo_header, right_checksum, shown_checksum, ipv4_checksum}
use Rattle.ftc_gen.specs.Capture.{header, record_of, records}

pub none_sum : ones_complement 0 ≡ 0
unfolding ones_complement
none_sum = refl

pub some_sum : (total : ℕ) → 0 < total → ones_complement total ≡ (total - 1) % 0xffff + 1
unfolding ones_complement
some_sum total some = grind (arith)

pub ipv4_sum : (identification host : ℕ) → identification ≤ 65535
    → sum (words (ipv4 identification host 0)) ≡ 0x4500 + 28 + identification + 0x4011
    + (0x0a00 + host + 0xc633 + 0x640a)
unfolding words
ipv4_sum identification host few = omega arith

pub udp_sum : (host port : ℕ) → port ≤ 65535
    → sum (words (pseudo_header host ++ udp port 0)) ≡ (0x0a00 + host + 0xc633 + 0x640a) + 17 + 8 + 5000 + port + 8
unfolding words
udp_sum host port few = omega arith

-- ---- checksums

pub zero_checksum : (total : ℕ) → total ≡ 0 → 0xffff ≡ checksum_of total
zero_checksum total is = rw (is, none_sum) refl

pub some_checksum : (total : ℕ) → 0 < total → 0xffff - ((total - 1) % 0xffff + 1) ≡ checksum_of total
some_checksum total some = ap (λ (s : ℕ). 0xffff - s) (sym (some_sum total some))

pub ipv4_right : (identification host total : ℕ) → identification ≤ 65535
    → total ≡ 0x4500 + 28 + identification + 0x4011 + (0x0a00 + host + 0xc633 + 0x640a) →
    checksum_of total ≡ ipv4_checksum identification host
ipv4_right identification host total few is =
    ap (λ (t : ℕ). checksum_of t) (is ∙ sym (ipv4_sum identification host few))

pub udp_right : (host port total : ℕ) → port ≤ 65535
    → total ≡ (0x0a00 + host + 0xc633 + 0x640a) + 17 + 8 + 5000 + port + 8
    → checksum_of total ≡ right_checksum (pseudo_header host ++ udp port 0)
udp_right host port total few is = ap (λ (t : ℕ). checksum_of t) (is ∙ sym (udp_sum host port few))

pub shown_as_all_ones : (checksum right : ℕ) → checksum ≡ right → checksum ≡ 0 → 0xffff ≡ shown_checksum right
shown_as_all_ones checksum right same is = rw (← same, is) refl

pub shown_as_it_is : (checksum right : ℕ) → checksum ≡ right → checksum ≢ 0 → checksum ≡ shown_checksum right
shown_as_it_is checksum right same some =
    same ∙ sym (elim (right == 0) as (λ t. (right == 0) ≡ t → (if t then 0xffff else right) ≡ right) [
      | true ↦ λ zero. absurd (some (same ∙ eqb-true right 0 zero))
      | false ↦ λ _. refl
    ] refl)

-- one record more
pub one_more : (seed place : ℕ) (before after : List ℕ) → before ≡ header ++ records seed place →
    after ≡ before ++ record_of seed place
    → after ≡ header ++ records seed (place + 1)
one_more seed place before after sofar grown =
    let more : after ≡ header ++ records seed (suc place) =
    grown ∙ (ap (λ (bytes : List ℕ). bytes ++ record_of seed place) sofar ∙ append_assoc header (records seed place)
    (record_of seed place)) in
    rw add-one more
