-- Lemmas on numbers and on the worth of digits.
use Rattle.std.proofs.Common.{◌≡◌, ℕ, ◌+◌, ◌*◌, ◌-◌, ◌<◌, ◌≤◌, List, [], ◌∷◌, length, get_or, drop, true, Err, arith}
use Rattle.std.proofs.Common.{drop-cons, add-one, ◌==◌}
use Rattle.std.proofs.lemmas.Grind.{common_steps}
use Rattle.ftc_base.specs.Number.{decimal_from, is_numeral, number_of}
use Rattle.ftc_base.specs.declared.lexer.Lexical.TheVariants.{TooLarge}

pub eqb-swap : (a b : ℕ) → (a == b) ≡ (b == a)
eqb-swap a b = grind arith

-- more digits never make it less
pub decimal_from-grows : (n : ℕ) (ds : List ℕ) → n ≤ decimal_from n ds
decimal_from-grows n [] = omega arith
decimal_from-grows n (d ∷ ds) = omega (arith, decimal_from-grows (10 * n + (d - 48)) ds)

pub number_of-too_large : (word : List ℕ) (i value most : ℕ) → i < length word → is_numeral word ≡ true →
    decimal_from value (drop i word) ≡ decimal_from 0 word → most < 10 * value + (get_or word i 0 - 48) →
    Err TooLarge ≡ number_of word most
number_of-too_large word i value most inside numeral worth large =
    let step : decimal_from value (drop i word)
    ≡ decimal_from (10 * value + (get_or word i 0 - 48)) (drop (i + 1) word) = rw (add-one, drop-cons word i 0) in
    let grows = decimal_from-grows (10 * value + (get_or word i 0 - 48)) (drop (i + 1) word) in
    grind (arith, common_steps)
