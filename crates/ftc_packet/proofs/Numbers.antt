-- One's complement sums, and the law of an updated checksum, over numbers.
use Rattle.std.proofs.Common.{◌≡◌, ◌≢◌, ℕ, ◌+◌, ◌-◌, ◌*◌, ◌/◌, ◌%◌, ◌<◌, ◌≤◌, arith, inl, inr, refl, sym, ap, ◌∙◌}
use Rattle.std.proofs.lemmas.Bool.{cases_eq}
use Rattle.std.proofs.lemmas.Bool.Decides.{nat_tests}
use Rattle.ftc_packet.specs.Laws.{IsUpdate}
use Rattle.ftc_packet.specs.Sum.{ones_complement, updated_checksum, checksum_of}

-- The one's complement sum takes off a multiple of 65535.
pub ones_complement-split : (n : ℕ) → ones_complement n + 65535 * ((n - 1) / 65535) ≡ n
unfolding ones_complement
ones_complement-split n = grind (arith, nat_tests)

pub ones_complement_most : (n : ℕ) → ones_complement n ≤ 65535
unfolding ones_complement
ones_complement_most n = grind (arith, nat_tests)

-- Only 0 has the sum 0.
pub ones_complement_least : (n : ℕ) → 0 < n → 0 < ones_complement n
unfolding ones_complement
ones_complement_least n positive = grind (arith, nat_tests)

-- Numbers that differ by a multiple of 65535 have the same sum, unless one of them is 0.
pub ones_complement_same : (m n k : ℕ) → m ≡ n + 65535 * k → 0 < n → ones_complement m ≡ ones_complement n
unfolding ones_complement
ones_complement_same m n k e positive = grind (arith, nat_tests)

-- A sum that goes on from a sum is the sum of all.
pub ones_complement-add : (a b : ℕ) → ones_complement (ones_complement a + b) ≡ ones_complement (a + b)
ones_complement-add a b = elim (cases_eq a 0) [
  | inl zero_a ↦ let none : ones_complement 0 ≡ 0 = unfold ones_complement in refl in rw (zero_a, none) refl
  | inr positive ↦ sym (ones_complement_same (a + b) (ones_complement a + b) ((a - 1) / 65535)
      (omega (arith, ones_complement-split a)) (omega (arith, ones_complement_least a (omega arith))))
]

-- A multiple of 65535 above 0 is right.
pub right_from : (n k : ℕ) → n ≡ 65535 * k → 0 < n → ones_complement n ≡ 65535
unfolding ones_complement
right_from n k e positive = grind (arith, nat_tests)

-- What is right is a multiple of 65535 above 0.
pub right_gives : (n : ℕ) → ones_complement n ≡ 65535 → n ≡ 65535 * ((n - 1) / 65535 + 1)
right_gives n e = omega (arith, ones_complement-split n)

-- The complement of a word, added to what an update takes off and puts in, keeps the whole a multiple of 65535. The
-- quotients of the update's two sums, q and r, say which one.
multiple-update : (rest checksum before after first second k q r : ℕ) → checksum ≤ 65535 → before ≤ 65535 →
    second ≤ 65535 →
    rest + checksum + before ≡ 65535 * (k + 1) → first + 65535 * q ≡ (65535 - checksum) + (65535 - before) →
    second + 65535 * r ≡ first + after → rest + (65535 - second) + after ≡ 65535 * (k + q + r)
multiple-update rest checksum before after first second k q r hc hb hs whole e f = omega arith

-- An update where the word really changes.
changed_update : (rest checksum before after : ℕ) → IsUpdate rest checksum before →
    ones_complement (rest + (65535 - ones_complement (ones_complement ((65535 - checksum) + (65535 - before)) + after))
    + after) ≡ 65535
changed_update rest checksum before after u =
    let taken = (65535 - checksum) + (65535 - before) in
    let first = ones_complement taken in
    let second = ones_complement (first + after) in
    let k = (rest + checksum + before - 1) / 65535 in
    let q = (taken - 1) / 65535 in
    let r = (first + after - 1) / 65535 in
    let multiple = multiple-update rest checksum before after first second k q r u.checksum_fits u.before_fits
    (ones_complement_most (first + after)) (right_gives _ u.right) (ones_complement-split taken)
    (ones_complement-split (first + after)) in
    right_from _ (k + q + r) multiple (omega (arith, u.rest_above_zero))

updated_checksum-same : (checksum before after : ℕ) → before ≡ after →
    updated_checksum checksum before after ≡ checksum
unfolding updated_checksum
updated_checksum-same checksum before after e = grind (arith, nat_tests)

updated_checksum-changed : (checksum before after : ℕ) → before ≢ after →
    updated_checksum checksum before after
    ≡ 65535 - ones_complement (ones_complement ((65535 - checksum) + (65535 - before)) + after)
unfolding updated_checksum
updated_checksum-changed checksum before after e = grind (arith, nat_tests)

pub updated_checksum_most : (checksum before after : ℕ) → checksum ≤ 65535 →
    updated_checksum checksum before after ≤ 65535
unfolding updated_checksum
updated_checksum_most checksum before after h = grind (arith, nat_tests)

-- THE LAW: an updated checksum is right.
pub updates_stay_right : (rest checksum before after : ℕ) → IsUpdate rest checksum before →
    ones_complement (rest + updated_checksum checksum before after + after) ≡ 65535
updates_stay_right rest checksum before after u = elim (cases_eq before after) [
  | inl same ↦ rw (updated_checksum-same checksum before after same, sym same) u.right
  | inr changed ↦ rw (updated_checksum-changed checksum before after changed)
      (changed_update rest checksum before after u)
]

-- A right checksum is the complement of the sum of the other words, up to the two zeros.
right_recomputes : (total checksum : ℕ) → checksum ≤ 65535 → ones_complement (total + checksum) ≡ 65535 →
    checksum % 65535 ≡ checksum_of total % 65535
right_recomputes total checksum most right =
    let split = ones_complement-split total in
    let whole = right_gives (total + checksum) right in
    let bound = ones_complement_most total in
    omega arith

-- THE LAW, by the sum of all words.
pub updates_recompute : (rest checksum before after : ℕ) → IsUpdate rest checksum before →
    updated_checksum checksum before after % 65535 ≡ checksum_of (rest + after) % 65535
updates_recompute rest checksum before after u =
    let new = updated_checksum checksum before after in
    let right = updates_stay_right rest checksum before after u in
    let regrouped : rest + new + after ≡ rest + after + new = omega arith in
    right_recomputes (rest + after) new (updated_checksum_most checksum before after u.checksum_fits)
    (rw regrouped at right)

-- A word is its own sum.
pub ones_complement-word : (n : ℕ) → n ≤ 65535 → ones_complement n ≡ n
unfolding ones_complement
ones_complement-word n h = grind (arith, nat_tests)

-- The same facts of an update, one by one.
update : (rest checksum before after : ℕ) → 0 < rest → checksum ≤ 65535 → before ≤ 65535 →
    ones_complement (rest + checksum + before) ≡ 65535 →
    ones_complement (rest + updated_checksum checksum before after + after) ≡ 65535
update rest checksum before after positive hc hb right =
    updates_stay_right rest checksum before after
    record { rest_above_zero = positive; checksum_fits = hc; before_fits = hb; right = right }

-- A right sum, written in another order.
pub right_along : (a b : ℕ) → a ≡ b → ones_complement a ≡ 65535 → ones_complement b ≡ 65535
right_along a b e h = ap ones_complement (sym e) ∙ h

-- Two updates, one after the other: c is the checksum, and m₁ and m₂ become n₁ and n₂.
pub two_updates : (rest c m₁ n₁ m₂ n₂ : ℕ) → 0 < rest → c ≤ 65535 → m₁ ≤ 65535 → m₂ ≤ 65535 →
    ones_complement (rest + c + m₁ + m₂) ≡ 65535 →
    ones_complement (rest + updated_checksum (updated_checksum c m₁ n₁) m₂ n₂ + n₁ + n₂) ≡ 65535
two_updates rest c m₁ n₁ m₂ n₂ positive hc h₁ h₂ right =
    let c₁ = updated_checksum c m₁ n₁ in
    let one = update (rest + m₂) c m₁ n₁ (omega arith) hc h₁ (right_along _ _ (omega arith) right) in
    let two = update (rest + n₁) c₁ m₂ n₂ (omega arith) (updated_checksum_most c m₁ n₁ hc) h₂
    (right_along (rest + m₂ + c₁ + n₁) _ (omega arith) one) in
    right_along _ _ (omega arith) two

-- Three updates, one after the other.
pub three_updates : (rest c m₁ n₁ m₂ n₂ m₃ n₃ : ℕ) → 0 < rest → c ≤ 65535 → m₁ ≤ 65535 → m₂ ≤ 65535 → m₃ ≤ 65535 →
    ones_complement (rest + c + m₁ + m₂ + m₃) ≡ 65535 →
    ones_complement (rest + updated_checksum (updated_checksum (updated_checksum c m₁ n₁) m₂ n₂) m₃ n₃ + n₁ + n₂ + n₃)
    ≡ 65535
three_updates rest c m₁ n₁ m₂ n₂ m₃ n₃ positive hc h₁ h₂ h₃ right =
    let c₁ = updated_checksum c m₁ n₁ in
    let c₂ = updated_checksum c₁ m₂ n₂ in
    let most : c₂ ≤ 65535 = updated_checksum_most c₁ m₂ n₂ (updated_checksum_most c m₁ n₁ hc) in
    let two = two_updates (rest + m₃) c m₁ n₁ m₂ n₂ (omega arith) hc h₁ h₂
    (right_along (rest + c + m₁ + m₂ + m₃) (rest + m₃ + c + m₁ + m₂) (omega arith) right) in
    let three = update (rest + n₁ + n₂) c₂ m₃ n₃ (omega arith) most h₃
    (right_along (rest + m₃ + c₂ + n₁ + n₂) (rest + n₁ + n₂ + c₂ + m₃) (omega arith) two) in
    right_along (rest + n₁ + n₂ + updated_checksum c₂ m₃ n₃ + n₃) _ (omega arith) three

-- A checksum of 0 may be written as 65535.
pub right_with_full : (n : ℕ) → ones_complement n ≡ 65535 → ones_complement (n + 65535) ≡ 65535
right_with_full n e = right_from _ ((n - 1) / 65535 + 2) (omega (arith, right_gives n e)) (omega arith)
