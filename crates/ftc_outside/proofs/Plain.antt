-- Words that are written out and numbers have no line feed.
use Rattle.std.proofs.Common.{◌≡◌, ◌≢◌, ℕ, zero, suc, ◌+◌, ◌/◌, ◌%◌, Bool, true, false, List, [], ◌∷◌, ◌++◌, arith}
use Rattle.std.specs.Prelude.{◌==◌, not, nat_lt, if◌then◌else◌, decimal}
use Rattle.std.specs.List.{list_all}
use Rattle.std.specs.Fmt.{digits, digits_onto, digit_glyph}
use Rattle.std.proofs.lemmas.Bool.{and_parts}
use Rattle.std.proofs.lemmas.Bool.Decides.{nat_tests}
use Rattle.ftc_outside.specs.Tap.{HasNoFeed}

pub plain_together : (xs ys : List ℕ) → HasNoFeed xs → HasNoFeed ys → HasNoFeed (xs ++ ys)
plain_together [] ys front behind = behind
plain_together (x ∷ xs) ys front behind = (front.0, plain_together xs ys front.1 behind)

-- a word that is written out passes this test
abbrev pub is_plain : List ℕ → Bool
is_plain word = list_all (λ b. not (b == 10)) word

other_byte : (b : ℕ) → not (b == 10) ≡ true → b ≢ 10
other_byte b other feed = grind (arith, nat_tests)

pub plain_word : (word : List ℕ) → is_plain word ≡ true → HasNoFeed word
plain_word [] test = tt
plain_word (b ∷ bs) test =
    let parts = and_parts (not (b == 10)) (is_plain bs) test in
    (other_byte b parts.0, plain_word bs parts.1)

-- a number in decimal
digit_plain : (digit : ℕ) → digit_glyph false digit ≢ 10
digit_plain digit =
    elim (nat_lt digit 10) as (λ (t : Bool). (if t then 48 + digit else 87 + digit) ≢ 10) [
      | true ↦ λ feed. omega arith
      | false ↦ λ feed. omega arith
    ]

digits_plain : (most n : ℕ) (behind : List ℕ) → HasNoFeed behind → HasNoFeed (digits_onto most 10 false n behind)
digits_plain zero n behind plain = plain
digits_plain (suc most) n behind plain =
    let digit = digit_glyph false (n % 10) in
    elim (n / 10 == 0) as (λ (t : Bool). HasNoFeed (if t then digit ∷ behind
    else digits_onto most 10 false (n / 10) (digit ∷ behind))) [
      | true ↦ (digit_plain (n % 10), plain)
      | false ↦ digits_plain most (n / 10) (digit ∷ behind) (digit_plain (n % 10), plain)
    ]

pub plain_decimal : (n : ℕ) → HasNoFeed (decimal n)
unfolding digits
plain_decimal n = digits_plain 64 n [] tt
