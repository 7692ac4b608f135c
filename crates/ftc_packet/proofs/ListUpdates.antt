-- The law of updated checksums over lists of bytes.
use Rattle.std.proofs.Common.{◌≡◌, ℕ, ◌+◌, ◌%◌, ◌<◌, ◌≤◌, List, length, get_or, arith, ◌∙◌}
use Rattle.ftc_packet.specs.Layout.{word_at, with_word}
use Rattle.ftc_packet.specs.Sum.{ones_complement, updated_checksum}
use Rattle.ftc_packet.proofs.Numbers.{right_along, three_updates, two_updates}
use Rattle.ftc_packet.proofs.Weights.{weighted}
use Rattle.ftc_packet.proofs.WordEdits.{Apart, even-le-weighted, get-with_word_apart, with_two-sum, with_three-sum}

-- The words at a and b change, and the checksum at d. A byte at the even place z stays and isn't 0. The sum of the
-- words that stay is that of the same list with the three words put to 0.
pub list_of_two_updates : (xs : List ℕ) (a n₁ b n₂ d z : ℕ) →
    word_at xs d ≤ 65535 → word_at xs a ≤ 65535 → word_at xs b ≤ 65535 →
    a % 2 ≡ 0 → b % 2 ≡ 0 → d % 2 ≡ 0 → z % 2 ≡ 0 →
    Apart b a → Apart d a → Apart d b → Apart z a → Apart z b → Apart z d →
    a + 1 < length xs → b + 1 < length xs → d + 1 < length xs → 0 < get_or xs z 0 →
    ones_complement (weighted 0 xs) ≡ 65535 →
    ones_complement (weighted 0 (with_word (with_word (with_word xs a n₁) b n₂) d
    (updated_checksum (updated_checksum (word_at xs d) (word_at xs a) n₁) (word_at xs b) n₂))) ≡ 65535
list_of_two_updates xs a n₁ b n₂ d z hd ha hb ea eb ed ez ba da db za zb zd la lb ld above right =
    let c = word_at xs d in
    let m₁ = word_at xs a in
    let m₂ = word_at xs b in
    let new = updated_checksum (updated_checksum c m₁ n₁) m₂ n₂ in
    let bare = with_word (with_word (with_word xs a 0) b 0) d 0 in
    let rest = weighted 0 bare in
    let before = with_three-sum xs a 0 b 0 d 0 ea eb ed ba da db la lb ld in
    let after = with_three-sum xs a n₁ b n₂ d new ea eb ed ba da db la lb ld in
    let stands = get-with_word_apart (with_word (with_word xs a 0) b 0) d 0 z (omega arith) (omega arith)
    ∙ get-with_word_apart (with_word xs a 0) b 0 z (omega arith) (omega arith)
    ∙ get-with_word_apart xs a 0 z (omega arith) (omega arith) in
    let positive : 0 < rest = omega (arith, even-le-weighted bare z ez, stands) in
    let updated = two_updates rest c m₁ n₁ m₂ n₂ positive hd ha hb
    (right_along (weighted 0 xs) (rest + c + m₁ + m₂) (omega arith) right) in
    right_along (rest + new + n₁ + n₂) _ (omega arith) updated

-- Under a pseudo header two words change, m₁ and m₂, and its others sum to p. In the list behind it the word at a
-- changes, and the checksum at d.
pub list_of_three_updates : (xs : List ℕ) (p m₁ n₁ m₂ n₂ a n₃ d : ℕ) → 0 < p →
    word_at xs d ≤ 65535 → m₁ ≤ 65535 → m₂ ≤ 65535 → word_at xs a ≤ 65535 →
    a % 2 ≡ 0 → d % 2 ≡ 0 → Apart d a → a + 1 < length xs → d + 1 < length xs →
    ones_complement (p + m₁ + m₂ + weighted 0 xs) ≡ 65535 →
    ones_complement (p + n₁ + n₂ + weighted 0 (with_word (with_word xs a n₃) d
    (updated_checksum (updated_checksum (updated_checksum (word_at xs d) m₁ n₁) m₂ n₂) (word_at xs a) n₃))) ≡ 65535
list_of_three_updates xs p m₁ n₁ m₂ n₂ a n₃ d above hd h₁ h₂ ha ea ed da la ld right =
    let c = word_at xs d in
    let m₃ = word_at xs a in
    let new = updated_checksum (updated_checksum (updated_checksum c m₁ n₁) m₂ n₂) m₃ n₃ in
    let rest = p + weighted 0 (with_word (with_word xs a 0) d 0) in
    let before = with_two-sum xs a 0 d 0 ea ed da la ld in
    let after = with_two-sum xs a n₃ d new ea ed da la ld in
    let updated = three_updates rest c m₁ n₁ m₂ n₂ m₃ n₃ (omega arith) hd h₁ h₂ ha
    (right_along (p + m₁ + m₂ + weighted 0 xs) (rest + c + m₁ + m₂ + m₃) (omega arith) right) in
    right_along (rest + new + n₁ + n₂ + n₃) _ (omega arith) updated
