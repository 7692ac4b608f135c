-- Printed numbers are read again, and a word that is read as a number is that number printed.
use Rattle.std.proofs.Common.{◌≡◌, ◌≤◌, ◌<◌, ◌^◌, ℕ, zero, suc, true, false, List, [], ◌∷◌, length, get_or}
use Rattle.std.proofs.Common.{if◌then◌else◌, ◌⊎◌, refl, sym, ap, ◌∙◌, arith, rules, Ok, Err}
use Rattle.std.specs.Prelude.{◌==◌, nat_le, not, decimal}
use Rattle.std.specs.List.{AllByRecursion, list_all}
use Rattle.std.proofs.lemmas.Bool.Decides.{nat_tests}
use Rattle.std.proofs.lemmas.Fmt.{digits_decimal, digits_value-decimal, decimal_digit, first_decimal, decimal_nonempty}
use Rattle.std.proofs.lemmas.Fmt.{decimal-digits_value}
use Rattle.std.proofs.lemmas.Str.Parse.{IsNumeralModel, numerals_by_fold}
use Rattle.std.proofs.lemmas.Bool.{not-true, and_parts}
use Rattle.ftc_base.specs.Number.{number_of, is_numeral, is_digit, decimal_from}
use Rattle.ftc_base.specs.declared.lexer.Lexical.TheVariants.{NotNumber, TooLarge}
use Rattle.ftc_base.proofs.EachOf.{all-weaker}
use Rattle.ftc_base.proofs.Separated.{Without}
use Rattle.ftc_base.proofs.PlainWords.{IsLetter, IsPlainWord}

abbrev pub IsDigit : ℕ → Type 0
IsDigit b = (48 ≤ b) × (b ≤ 57)

own : IsNumeralModel (AllByRecursion IsDigit) (decimal_from 0)
own = numerals_by_fold _ (search rules) decimal_from (search rules)

pub digits : (n : ℕ) → n ≤ 4294967295 → AllByRecursion IsDigit (decimal n)
digits n small = digits_decimal own n (omega arith)

pub some_digit : (n : ℕ) → n ≤ 4294967295 → 1 ≤ length (decimal n)
some_digit n small = let some = decimal_nonempty n (omega arith) in omega arith

leading_zero : (n : ℕ) → n ≤ 4294967295 → get_or (decimal n) 0 0 ≡ 48 → length (decimal n) ≡ 1
leading_zero zero small first = ap length (decimal_digit 0 (omega arith))
leading_zero (suc n) small first =
    let more = first_decimal (suc n) (omega arith) (omega arith) in absurd (omega arith)

digit-is_digit : (b : ℕ) → IsDigit b → is_digit b ≡ true
digit-is_digit b digit = grind (arith, nat_tests)

is_digit-digit : (b : ℕ) → is_digit b ≡ true → IsDigit b
is_digit-digit b is =
    let split = and_parts (nat_le 48 b) (nat_le b 57) is in
    (grind (arith, nat_tests, split.0), grind (arith, nat_tests, split.1))

all_digits : (ds : List ℕ) → AllByRecursion IsDigit ds → list_all is_digit ds ≡ true
all_digits [] all = refl
all_digits (d ∷ ds) all = rw (digit-is_digit d all.0, all_digits ds all.1) refl

digits_all : (ds : List ℕ) → list_all is_digit ds ≡ true → AllByRecursion IsDigit ds
digits_all [] all = tt
digits_all (d ∷ ds) all =
    let split = and_parts (is_digit d) (list_all is_digit ds) all in (is_digit-digit d split.0, digits_all ds split.1)

numeral : (ds : List ℕ) → 1 ≤ length ds → AllByRecursion IsDigit ds → (get_or ds 0 0 ≡ 48 → length ds ≡ 1)
    → is_numeral ds ≡ true
numeral [] some all alone = absurd (omega arith)
numeral (b ∷ []) some all alone = digit-is_digit b all.0
numeral (b ∷ c ∷ ds) some all alone =
    let differs : b ≡ 48 → ⊥ = λ e. (let one : length (b ∷ c ∷ ds) ≡ 1 = alone e in omega arith) in
    let other : (b == 48) ≡ false = grind (arith, nat_tests, differs) in
    rw other (all_digits (b ∷ c ∷ ds) all)

-- what a numeral is made of
record IsWritten (ds : List ℕ) : Type 0 where
  pub some : 0 < length ds
  pub digits : AllByRecursion IsDigit ds
  pub alone : get_or ds 0 0 ≡ 48 → length ds ≡ 1

numeral_is : (ds : List ℕ) → is_numeral ds ≡ true → IsWritten ds
numeral_is [] e = absurd cc
numeral_is (b ∷ []) e = record { some = omega arith; digits = (is_digit-digit b e, tt); alone = λ first. refl }
numeral_is (b ∷ c ∷ ds) e =
    let split = and_parts (not (b == 48)) (list_all is_digit (b ∷ c ∷ ds)) e in
    let other = not-true (b == 48) split.0 in
    record {
      some = omega arith;
      digits = digits_all (b ∷ c ∷ ds) split.1;
      alone = λ (same : b ≡ 48). absurd (grind (arith, nat_tests));
    }

pub read_again : (n : ℕ) → n < 2 ^ 32 → decimal_from 0 (decimal n) ≡ n
read_again n small = search (rules, digits_value-decimal own)

pub number_of-decimal : (n most : ℕ) → n ≤ most → n ≤ 4294967295 → number_of (decimal n) most ≡ Ok n
number_of-decimal n most within small =
    let spelled = numeral (decimal n) (some_digit n small) (digits n small) (leading_zero n small) in
    let worth = read_again n (omega arith) in
    let fits : nat_le n most ≡ true = search rules in
    rw (spelled, worth, fits) refl

pub number_spelled : (word : List ℕ) (n most : ℕ) → most ≤ 4294967295 → number_of word most ≡ Ok n
    → (word ≡ decimal n) × (n ≤ most)
number_spelled word n most low e =
    elim (is_numeral word) as (λ t. is_numeral word ≡ t →
    (if t then (if nat_le (decimal_from 0 word) most then Ok (decimal_from 0 word) else Err TooLarge)
    else Err NotNumber) ≡ Ok n → (word ≡ decimal n) × (n ≤ most)) [
      | true ↦ λ is. elim (nat_le (decimal_from 0 word) most) as (λ t. nat_le (decimal_from 0 word) most ≡ t →
          (if t then Ok (decimal_from 0 word) else Err TooLarge) ≡ Ok n → (word ≡ decimal n) × (n ≤ most)) [
            | true ↦ λ fits told.
                let worth : decimal_from 0 word ≡ n = cc in
                let small : decimal_from 0 word ≤ most = grind (arith, nat_tests) in
                let made = numeral_is word is in (
                  sym (ap decimal (sym worth) ∙ decimal-digits_value own word made.digits made.some made.alone
                      (omega arith)),
                  omega arith,
                )
            | false ↦ λ fits told. absurd cc
          ] refl
      | false ↦ λ is told. absurd cc
    ] refl e

without_digits : (separator : ℕ) (ds : List ℕ) → (separator < 48) ⊎ (57 < separator) → AllByRecursion IsDigit ds
    → Without separator ds
without_digits separator [] apart all = tt
without_digits separator (d ∷ ds) apart all = (grind (arith, nat_tests, all.0), without_digits separator ds apart all.1)

pub without_decimal : (separator n : ℕ) → (separator < 48) ⊎ (57 < separator) → n ≤ 4294967295
    → Without separator (decimal n)
without_decimal separator n apart small = without_digits separator (decimal n) apart (digits n small)

pub plain_number : (n : ℕ) → n ≤ 4294967295 → IsPlainWord (decimal n)
plain_number n small = record {
  some = some_digit n small;
  letters = all-weaker IsDigit IsLetter (λ b digit. (omega arith, omega arith)) (decimal n) (digits n small);
}
