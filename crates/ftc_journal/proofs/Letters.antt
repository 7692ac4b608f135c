-- Words of printed lines, and the bytes that don't stand in them.
use Rattle.std.proofs.Common.{◌≡◌, ◌≤◌, ◌<◌, ℕ, true, false, List}
use Rattle.std.proofs.Common.{if◌then◌else◌, refl, ap, ◌∙◌, arith, Ok, Err, Option, Some, None, Result}
use Rattle.std.specs.Prelude.{nat_lt, decimal}
use Rattle.std.proofs.lemmas.Bool.Decides.{nat_tests}
use Rattle.ftc_base.specs.Number.{number_of}
use Rattle.ftc_base.specs.declared.lexer.Lexical.{Lexical}
use Rattle.ftc_base.specs.declared.lexer.Lexical.TheVariants.{NotNumber, TooLarge, NotAddress}
use Rattle.ftc_base.proofs.Decimals.{number_of-decimal, number_spelled}
use Rattle.ftc_base.specs.declared.limits.TheConstants.{MOST_NUMBER}
use Rattle.ftc_journal.specs.declared.fault.JournalCause.TheVariants.{Range}
use Rattle.ftc_journal.specs.Reading.{as_figure, figure_of, number_in, below}

-- a printed number is read, and a word that is read is the printed number
pub figure_of-decimal : (n : ℕ) → n ≤ MOST_NUMBER → figure_of (decimal n) ≡ Ok (Some n)
figure_of-decimal n small = rw (number_of-decimal n MOST_NUMBER small small) refl

figure_number : (r : Result ℕ Lexical) (n : ℕ) → as_figure r ≡ Ok (Some n) → r ≡ Ok n
figure_number (Ok m) n e = let same : m ≡ n = cc in ap Ok same
figure_number (Err NotNumber) n e = absurd cc
figure_number (Err TooLarge) n e = absurd cc
figure_number (Err NotAddress) n e = absurd cc

pub figure_spelled : (word : List ℕ) (n : ℕ) → figure_of word ≡ Ok (Some n) → (word ≡ decimal n) × (n ≤ MOST_NUMBER)
figure_spelled word n e = number_spelled word n MOST_NUMBER (omega arith)
    (figure_number (number_of word MOST_NUMBER) n e)

number_some : (a : Option ℕ) (n : ℕ) → number_in a ≡ Ok n → a ≡ Some n
number_some None n e = absurd cc
number_some (Some m) n e = let same : m ≡ n = cc in ap Some same

below_some : (bound : ℕ) (a : Option ℕ) (n : ℕ) → below bound a ≡ Ok n → (a ≡ Some n) × (n < bound)
below_some bound None n e = absurd cc
below_some bound (Some m) n e =
    elim (nat_lt m bound) as (λ t. nat_lt m bound ≡ t → (if t then Ok m else Err Range) ≡ Ok n →
    (Some m ≡ Some n) × (n < bound)) [
      | true ↦ λ is told. let same : m ≡ n = cc in (ap Some same, grind (arith, nat_tests))
      | false ↦ λ is told. absurd cc
    ] refl e

pub number_word : (word : List ℕ) (a : Option ℕ) (n : ℕ) → figure_of word ≡ Ok a → number_in a ≡ Ok n →
    (word ≡ decimal n) × (n ≤ MOST_NUMBER)
number_word word a n read is = figure_spelled word n (read ∙ ap Ok (number_some a n is))

pub below_word : (word : List ℕ) (a : Option ℕ) (bound n : ℕ) → figure_of word ≡ Ok a → below bound a ≡ Ok n →
    (word ≡ decimal n) × (n < bound)
below_word word a bound n read is =
    let some = below_some bound a n is in
    ((figure_spelled word n (read ∙ ap Ok some.0)).0, some.1)
