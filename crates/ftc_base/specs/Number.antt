-- The number that a word spells.
use Rattle.std.specs.Prelude.{◌+◌, ◌*◌, ◌-◌, ℕ, Bool, false, ◌&&◌, ◌==◌, not, nat_le, List, [], ◌∷◌, Result, Ok, Err}
use Rattle.std.specs.Prelude.{if◌then◌else◌}
use Rattle.std.specs.List.{list_all}
use Rattle.ftc_base.specs.declared.lexer.Lexical.{Lexical}
use Rattle.ftc_base.specs.declared.lexer.Lexical.TheVariants.{NotNumber, TooLarge}

abbrev pub is_digit : ℕ → Bool
is_digit byte = nat_le 48 byte && nat_le byte 57

-- decimal digits without a leading zero, or 0
abbrev pub is_numeral : List ℕ → Bool
is_numeral [] = false
is_numeral (byte ∷ []) = is_digit byte
is_numeral (byte ∷ next ∷ bytes) = not (byte == 48) && list_all is_digit (byte ∷ next ∷ bytes)

-- the worth of digits behind those that are worth so much
abbrev pub decimal_from : ℕ → List ℕ → ℕ
decimal_from worth [] = worth
decimal_from worth (digit ∷ digits) = decimal_from (10 * worth + (digit - 48)) digits

-- the number of a word, where it is at most `most`
abbrev pub number_of : List ℕ → ℕ → Result ℕ Lexical
number_of word most =
    if is_numeral word
    then (if nat_le (decimal_from 0 word) most then Ok (decimal_from 0 word) else Err TooLarge)
    else Err NotNumber
