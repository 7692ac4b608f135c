-- The sums of a packet, as sums of weighted bytes.
use Rattle.std.proofs.Common.{◌≡◌, ℕ, ◌+◌, ◌-◌, ◌/◌, ◌%◌, ◌≤◌, List, [], ◌∷◌, ◌++◌, sum, length, get_or, arith, sym, ap}
use Rattle.std.proofs.Common.{◌∙◌, refl}
use Rattle.std.specs.List.{slice_range}
use Rattle.std.proofs.lemmas.List.{length-append}
use Rattle.ftc_packet.specs.Sum.{ones_complement, words}
use Rattle.ftc_packet.specs.Layout.{datagram_end, transport_start, word_at}
use Rattle.ftc_packet.specs.Check.{header_sum, ipv4_header, pseudo_header, segment, segment_length, transport_sum}
use Rattle.ftc_packet.proofs.Numbers.{ones_complement-add}
use Rattle.ftc_packet.proofs.Weights.{weight, weighted, weighted-append, weighted_like, sum-words}
use Rattle.ftc_packet.proofs.WordEdits.{part, length-part, weighted-part_word}

-- The header has n bytes.
pub header_sum-weighted : (xs : List ℕ) (n : ℕ) → transport_start xs ≡ 14 + n →
    header_sum xs ≡ ones_complement (weighted 0 (part 14 n xs))
unfolding header_sum ipv4_header
header_sum-weighted xs n start =
    let count : transport_start xs - 14 ≡ n = omega arith in
    ap ones_complement (sum-words (slice_range xs 14 (transport_start xs)) ∙ ap
    (λ (m : ℕ). weighted 0 (part 14 m xs)) count)

-- The words of the two addresses.
unfoldable pub addresses : List ℕ → ℕ
addresses xs = word_at xs 26 + word_at xs 28 + word_at xs 30 + word_at xs 32

pub addresses-weighted : (xs : List ℕ) → 34 ≤ length xs → weighted 0 (part 26 8 xs) ≡ addresses xs
unfolding addresses weighted
addresses-weighted xs h =
    let a = weighted-part_word 26 0 xs refl (omega arith) in
    let b = weighted-part_word 26 2 xs refl (omega arith) in
    let c = weighted-part_word 26 4 xs refl (omega arith) in
    let d = weighted-part_word 26 6 xs refl (omega arith) in
    omega (arith, a, b, c, d)

-- The last four bytes of a pseudo header.
pseudo_header_end : (protocol n : ℕ) → weighted 8 (0 ∷ protocol ∷ n / 256 ∷ n % 256 ∷ []) ≡ protocol + n
unfolding weighted weight
pseudo_header_end protocol n = omega arith

-- The plain sum under the transport checksum.
abbrev pub plain_sum : List ℕ → ℕ → ℕ → ℕ
plain_sum xs t n = addresses xs + get_or xs 23 0 + n + weighted 0 (part t n xs)

-- The segment has n bytes from t on.
pub transport_sum-weighted : (xs : List ℕ) (t n : ℕ) → 34 ≤ length xs → transport_start xs ≡ t →
    datagram_end xs ≡ t + n →
    transport_sum xs ≡ ones_complement (plain_sum xs t n)
unfolding transport_sum pseudo_header segment
transport_sum-weighted xs t n long start end =
    let m = segment_length xs in
    let count : m ≡ n = omega arith in
    let front = part 26 8 xs in
    let back = 0 ∷ get_or xs 23 0 ∷ m / 256 ∷ m % 256 ∷ [] in
    let behind = part (transport_start xs) m xs in
    let of_front : length front ≡ 8 = length-part 26 8 xs long in
    let of_both : length (front ++ back) ≡ 12 = omega (arith, length-append front back) in
    let whole = sum-words ((front ++ back) ++ behind) ∙ weighted-append 0 (front ++ back) behind in
    let header = weighted-append 0 front back in
    let back_at : weighted (0 + length front) back ≡ weighted 8 back =
    weighted_like (0 + length front) 8 back (omega arith) in
    let behind_at : weighted (0 + length (front ++ back)) behind ≡ weighted 0 behind =
    weighted_like (0 + length (front ++ back)) 0 behind (omega arith) in
    let place = ap (λ (k : ℕ). weighted 0 (part (transport_start xs) k xs)) count
    ∙ ap (λ (k : ℕ). weighted 0 (part k n xs)) start in
    let total : sum (words ((front ++ back) ++ behind)) ≡ plain_sum xs t n =
    omega (
      arith,
      whole,
      header,
      back_at,
      behind_at,
      place,
      addresses-weighted xs long,
      pseudo_header_end (get_or xs 23 0) m,
    ) in
    ap ones_complement total

-- Sums that go on from one another are the sum of all.
running_sum : (a p n s : ℕ) →
    ones_complement (ones_complement (ones_complement (ones_complement (0 + a) + p) + n) + s)
    ≡ ones_complement (a + p + n + s)
running_sum a p n s =
    let zero-a : 0 + a ≡ a = omega arith in
    ap (λ (x : ℕ). ones_complement (ones_complement (ones_complement (ones_complement x + p) + n) + s)) zero-a
    ∙ ap (λ (x : ℕ). ones_complement (ones_complement (x + n) + s)) (ones_complement-add a p)
    ∙ ap (λ (x : ℕ). ones_complement (x + s)) (ones_complement-add (a + p) n)
    ∙ ones_complement-add (a + p + n) s

-- The sum of the pseudo header, and from there that of the segment.
pub transport_sum-running : (xs : List ℕ) (t n : ℕ) → 34 ≤ length xs → transport_start xs ≡ t →
    datagram_end xs ≡ t + n →
    ones_complement (ones_complement (ones_complement (ones_complement (0 + sum (words (part 26 8 xs)))
    + get_or xs 23 0) + n)
    + sum (words (part t n xs))) ≡ transport_sum xs
transport_sum-running xs t n long start end =
    let front = sum-words (part 26 8 xs) ∙ addresses-weighted xs long in
    let behind = sum-words (part t n xs) in
    running_sum (sum (words (part 26 8 xs))) (get_or xs 23 0) n (sum (words (part t n xs)))
    ∙ ap ones_complement (omega (arith, front, behind)) ∙ sym (transport_sum-weighted xs t n long start end)
