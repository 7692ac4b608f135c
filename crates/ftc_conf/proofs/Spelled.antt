-- Printed numbers, addresses, nets and ports read as what they print.
use Rattle.std.proofs.Common.{◌≡◌, ◌≤◌, ℕ, ◌+◌, ◌*◌, ◌/◌, ◌%◌, true, false, List, [], ◌∷◌, ◌++◌, length}
use Rattle.std.proofs.Common.{refl, ap, ◌∙◌, arith, rules, Ok, length-append}
use Rattle.std.specs.Prelude.{◌==◌, nat_le, codes, decimal}
use Rattle.std.specs.List.{AllByRecursion, join_with_byte}
use Rattle.std.specs.Str.{bytes_eq}
use Rattle.std.proofs.Math.Nat.{div-div-eq-div-mul}
use Rattle.std.proofs.lemmas.Bool.Decides.{nat_tests}
use Rattle.ftc_base.specs.declared.network.Net.{Net}
use Rattle.ftc_base.specs.Endpoint.{parts_of, address_in, address_of, net_in, net_of, IsNet}
use Rattle.ftc_base.proofs.EachOf.{all-append, all-weaker}
use Rattle.ftc_base.proofs.Separated.{Without, parts_of-part, parts_of-last, parts_of-join}
use Rattle.ftc_base.proofs.Decimals.{IsDigit, digits, some_digit, number_of-decimal}
use Rattle.ftc_base.specs.declared.limits.TheConstants.{MOST_NUMBER}
use Rattle.ftc_conf.specs.declared.limits.TheConstants.{MOST_PORT}
use Rattle.ftc_conf.specs.Words.{number_word, number_from_to, address_word, net_word, ports_between, dashed_ports}
use Rattle.ftc_conf.specs.Words.{ports_word}
use Rattle.ftc_conf.specs.Plain.{address_text, net_text, ports_text}
use Rattle.ftc_conf.proofs.Letters.{part_before-part, part_behind-part, has_byte-part}

pub number_word-decimal : (n : ℕ) → n ≤ 4294967295 → number_word (decimal n) ≡ Ok n
number_word-decimal n small = rw (number_of-decimal n MOST_NUMBER small small) refl

pub number_from_to-decimal : (least most n : ℕ) → least ≤ n → n ≤ most → n ≤ 4294967295 →
    number_from_to least most (decimal n) ≡ Ok n
number_from_to-decimal least most n low high small =
    let from : nat_le least n ≡ true = search rules in
    let to : nat_le n most ≡ true = search rules in
    rw (number_word-decimal n small, from, to) refl

-- the bytes of an address
abbrev pub IsAddressByte : ℕ → Type 0
IsAddressByte b = ((b == 47) ≡ false) × (46 ≤ b) × (b ≤ 57)

digit-address : (b : ℕ) → IsDigit b → IsAddressByte b
digit-address b digit = (grind (arith, nat_tests), omega arith, omega arith)

pub all-join : (P : ℕ → Type 0) (separator : ℕ) (parts : List (List ℕ)) → P separator →
    AllByRecursion (AllByRecursion P) parts → AllByRecursion P (join_with_byte separator parts)
all-join P separator [] sep all = tt
all-join P separator (part ∷ []) sep all = all.0
all-join P separator (part ∷ next ∷ parts) sep all =
    all-append P part (separator ∷ join_with_byte separator (next ∷ parts)) all.0 (
      sep,
      all-join P separator (next ∷ parts) sep all.1,
    )

octets : ℕ → List (List ℕ)
octets address = decimal (address / 16777216) ∷ decimal (address / 65536 % 256) ∷ decimal (address / 256 % 256)
    ∷ decimal (address % 256) ∷ []

digits_of_octets : (address : ℕ) → address ≤ 4294967295 → AllByRecursion (AllByRecursion IsDigit) (octets address)
unfolding octets
digits_of_octets address small = (
  digits (address / 16777216) (omega arith),
  (
    digits (address / 65536 % 256) (omega arith),
    (digits (address / 256 % 256) (omega arith), (digits (address % 256) (omega arith), tt)),
  ),
)

pub address_bytes : (address : ℕ) → address ≤ 4294967295 → AllByRecursion IsAddressByte (address_text address)
unfolding octets
address_bytes address small =
    all-join IsAddressByte 46 (octets address) (refl, omega arith, omega arith)
    (all-weaker (AllByRecursion IsDigit) (AllByRecursion IsAddressByte)
    (λ part. all-weaker IsDigit IsAddressByte digit-address part)
    (octets address) (digits_of_octets address small))

pub longer : (part rest : List ℕ) → 1 ≤ length part → 1 ≤ length (part ++ rest)
longer part rest some = omega (arith, length-append part rest)

pub some_address : (address : ℕ) → address ≤ 4294967295 → 1 ≤ length (address_text address)
some_address address small = longer (decimal (address / 16777216)) _ (some_digit (address / 16777216) (omega arith))

digit-dot : (b : ℕ) → IsDigit b → (b == 46) ≡ false
digit-dot b digit = grind (arith, nat_tests)

parts_of-address : (address : ℕ) → address ≤ 4294967295 → parts_of 46 (address_text address) ≡ octets address
unfolding octets
parts_of-address address small =
    parts_of-join 46 (decimal (address / 16777216)) (decimal (address / 65536 % 256) ∷ decimal (address / 256 % 256)
    ∷ decimal (address % 256) ∷ []) refl
    (all-weaker (AllByRecursion IsDigit) (Without 46)
    (λ part. all-weaker IsDigit (λ b. (b == 46) ≡ false) digit-dot part)
    (octets address) (digits_of_octets address small))

whole_address : (address : ℕ) →
    256 * (256 * (256 * (256 * 0 + address / 16777216) + address / 65536 % 256) + address / 256 % 256) + address % 256
    ≡ address
whole_address address =
    let second : address / 256 / 256 ≡ address / 65536 = div-div-eq-div-mul address 256 256 in
    let third : address / 65536 / 256 ≡ address / 16777216 = div-div-eq-div-mul address 65536 256 in
    omega arith

address_in-octets : (address : ℕ) → address ≤ 4294967295 → address_in (octets address) ≡ Ok address
unfolding octets
address_in-octets address small =
    rw (
      number_of-decimal (address / 16777216) 255 (omega arith) (omega arith),
      number_of-decimal (address / 65536 % 256) 255 (omega arith) (omega arith),
      number_of-decimal (address / 256 % 256) 255 (omega arith) (omega arith),
      number_of-decimal (address % 256) 255 (omega arith) (omega arith),
    )
    (ap (λ (n : ℕ). Ok n) (whole_address address))

pub address_of-text : (address : ℕ) → address ≤ 4294967295 → address_of (address_text address) ≡ Ok address
address_of-text address small = ap address_in (parts_of-address address small) ∙ address_in-octets address small

pub address_word-text : (address : ℕ) → address ≤ 4294967295 → address_word (address_text address) ≡ Ok address
address_word-text address small = rw (address_of-text address small) refl

-- no printed number, address or net is the word `any`
pub not_any : (word : List ℕ) → AllByRecursion (λ b. b ≤ 57) word → bytes_eq word (codes "any") ≡ false
not_any [] all = refl
not_any (b ∷ bs) all = let other : (b == 97) ≡ false = grind (arith, nat_tests) in rw other refl

digit-low : (b : ℕ) → IsDigit b → b ≤ 57
digit-low b digit = digit.1

address_byte-low : (b : ℕ) → IsAddressByte b → b ≤ 57
address_byte-low b byte = byte.2

digit-slash : (b : ℕ) → IsDigit b → (b == 47) ≡ false
digit-slash b digit = grind (arith, nat_tests)

net_in-parts : (net : Net) → IsNet net → net_in (address_text net.base ∷ decimal net.length ∷ []) ≡ Ok net
net_in-parts net bounds =
    rw (
      address_of-text net.base bounds.address,
      number_of-decimal net.length 32 bounds.length (omega arith),
      bounds.cleared,
    ) refl

parts_of-net : (net : Net) → IsNet net → parts_of 47 (net_text net) ≡ address_text net.base ∷ decimal net.length ∷ []
parts_of-net net bounds =
    parts_of-part 47 (address_text net.base) (decimal net.length) refl
    (all-weaker IsAddressByte (λ b. (b == 47) ≡ false) (λ b byte. byte.0) (address_text net.base)
    (address_bytes net.base bounds.address))
    ∙ ap (λ (parts : List (List ℕ)). address_text net.base
    ∷ parts) (parts_of-last 47 (decimal net.length)
    (all-weaker IsDigit (λ b. (b == 47) ≡ false) digit-slash (decimal net.length)
    (digits net.length (omega arith))))

pub net_bytes : (net : Net) → IsNet net → AllByRecursion (λ b. (46 ≤ b) × (b ≤ 57)) (net_text net)
net_bytes net bounds =
    all-append (λ b. (46 ≤ b) × (b ≤ 57)) (address_text net.base) (47 ∷ decimal net.length)
    (all-weaker IsAddressByte (λ b. (46 ≤ b) × (b ≤ 57)) (λ b byte. (byte.1, byte.2)) (address_text net.base)
    (address_bytes net.base bounds.address)) (
      (omega arith, omega arith),
      all-weaker IsDigit (λ b. (46 ≤ b) × (b ≤ 57)) (λ b digit. (omega arith, digit.1)) (decimal net.length)
          (digits net.length (omega arith)),
    )

pub net_of-text : (net : Net) → IsNet net → net_of (net_text net) ≡ Ok net
net_of-text net bounds =
    let other = not_any (net_text net) (all-weaker (λ b. (46 ≤ b)
    × (b ≤ 57)) (λ b. b ≤ 57) (λ b byte. byte.1) (net_text net) (net_bytes net bounds)) in
    rw other (ap net_in (parts_of-net net bounds) ∙ net_in-parts net bounds)

pub net_word-text : (net : Net) → IsNet net → net_word (net_text net) ≡ Ok net
net_word-text net bounds = rw (net_of-text net bounds) refl

-- ports
pub ports_between-decimal : (least first last : ℕ) → least ≤ first → first ≤ last → last ≤ 65535 →
    ports_between least (decimal first) (decimal last) ≡ Ok (record { first = first; last = last })
ports_between-decimal least first last low ordered high =
    let from : nat_le least first ≡ true = search rules in
    rw (
      number_word-decimal first (omega arith),
      from,
      number_from_to-decimal first MOST_PORT last ordered high (omega arith),
    ) refl

digit-dash : (b : ℕ) → IsDigit b → (b == 45) ≡ false
digit-dash b digit = grind (arith, nat_tests)

no_dash : (n : ℕ) → n ≤ 4294967295 → Without 45 (decimal n)
no_dash n small = all-weaker IsDigit (λ b. (b == 45) ≡ false) digit-dash (decimal n) (digits n small)

pub dashed_ports-text : (least first last : ℕ) → least ≤ first → first ≤ last → last ≤ 65535 →
    dashed_ports least (ports_text first last) ≡ Ok (record { first = first; last = last })
dashed_ports-text least first last low ordered high =
    rw (
      part_before-part 45 (decimal first) (decimal last) refl (no_dash first (omega arith)),
      part_behind-part 45 (decimal first) (decimal last) refl (no_dash first (omega arith)),
    )
    (ports_between-decimal least first last low ordered high)

pub ports_bytes : (first last : ℕ) → first ≤ 65535 → last ≤ 65535 →
    AllByRecursion (λ b. (45 ≤ b) × (b ≤ 57)) (ports_text first last)
ports_bytes first last small low =
    all-append (λ b. (45 ≤ b) × (b ≤ 57)) (decimal first) (45 ∷ decimal last)
    (all-weaker IsDigit (λ b. (45 ≤ b) × (b ≤ 57)) (λ b digit. (omega arith, digit.1)) (decimal first)
    (digits first (omega arith))) (
      (omega arith, omega arith),
      all-weaker IsDigit (λ b. (45 ≤ b) × (b ≤ 57)) (λ b digit. (omega arith, digit.1)) (decimal last)
          (digits last (omega arith)),
    )

pub ports_word-text : (first last : ℕ) → first ≤ last → last ≤ 65535 →
    ports_word (ports_text first last) ≡ Ok (record { first = first; last = last })
ports_word-text first last ordered high =
    let other = not_any (ports_text first last) (all-weaker (λ b. (45 ≤ b)
    × (b ≤ 57)) (λ b. b ≤ 57) (λ b byte. byte.1) (ports_text first last)
    (ports_bytes first last (omega arith) high)) in
    let dash = has_byte-part 45 (decimal first) (decimal last) refl (no_dash first (omega arith)) in
    rw (other, dash) (dashed_ports-text 0 first last (omega arith) ordered high)
