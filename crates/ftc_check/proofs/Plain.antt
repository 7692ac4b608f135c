-- Bytes in hex have no line feed.
use Rattle.std.proofs.Common.{◌≢◌, ℕ, zero, suc, ◌/◌, ◌%◌, List, [], ◌∷◌, get_or, refl, arith}
use Rattle.hex.specs.Hex.{encode_lower, encode_with, lower_digits}
use Rattle.ftc_outside.specs.Tap.{HasNoFeed}
use Rattle.ftc_outside.proofs.Plain.{plain_word}

plain_at : (bytes : List ℕ) → HasNoFeed bytes → (place : ℕ) → get_or bytes place 0 ≢ 10
plain_at [] plain place feed = omega arith
plain_at (b ∷ bs) plain zero feed = plain.0 feed
plain_at (b ∷ bs) plain (suc place) feed = plain_at bs plain.1 place feed

pub plain_hex : (bytes : List ℕ) → HasNoFeed (encode_lower bytes)
unfolding encode_with
plain_hex [] = tt
plain_hex (b ∷ bytes) =
    let table : HasNoFeed lower_digits = plain_word lower_digits refl in
    (plain_at lower_digits table (b / 16), (plain_at lower_digits table (b % 16), plain_hex bytes))
