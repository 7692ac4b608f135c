-- A net that is read has its bounds.
use Rattle.std.proofs.Common.{◌≡◌, ◌≤◌, ◌<◌, ◌+◌, ◌*◌, ◌-◌, ◌/◌, ◌^◌, ℕ, Bool, true, false, List, [], ◌∷◌, Result, Ok}
use Rattle.std.proofs.Common.{Err, refl, ap, cond, arith, rules}
use Rattle.std.specs.Prelude.{codes, IfOk, nat_le}
use Rattle.std.proofs.Math.Nat.{mul-div_cancel, div-mul-le_self}
use Rattle.std.specs.Str.{bytes_eq}
use Rattle.ftc_base.specs.declared.lexer.Lexical.{Lexical}
use Rattle.ftc_base.specs.declared.lexer.Lexical.TheVariants.{NotNumber, TooLarge}
use Rattle.ftc_base.specs.declared.network.Net.{Net}
use Rattle.ftc_base.specs.Number.{number_of, is_numeral, decimal_from}
use Rattle.ftc_base.specs.Endpoint.{parts_of, with_octet, address_in, address_of, with_length, net_in, net_of, IsNet}

-- what is read is at most this
abbrev AtMost : Result ℕ Lexical → ℕ → Type 0
AtMost read most = IfOk read (λ value. value ≤ most)

-- a number that is read is at most the greatest that was asked for
small_enough : (word : List ℕ) (most : ℕ) (t : Bool) → nat_le (decimal_from 0 word) most ≡ t →
    AtMost (cond t (Ok (decimal_from 0 word)) (Err TooLarge)) most
small_enough word most true small = search rules
small_enough word most false small = tt

is_number : (word : List ℕ) (most : ℕ) (t : Bool) →
    AtMost (cond t (cond (nat_le (decimal_from 0 word) most) (Ok (decimal_from 0 word)) (Err TooLarge))
    (Err NotNumber)) most
is_number word most true = small_enough word most (nat_le (decimal_from 0 word) most) refl
is_number word most false = tt

number_of-most : (word : List ℕ) (most : ℕ) → AtMost (number_of word most) most
number_of-most word most = is_number word most (is_numeral word)

-- one more byte of an address
with_octet-most : (high low : Result ℕ Lexical) (most : ℕ) → AtMost high most → AtMost low 255 →
    AtMost (with_octet high low) (256 * most + 255)
with_octet-most (Ok high) (Ok low) most few small = omega arith
with_octet-most (Ok high) (Err fault) most few small = tt
with_octet-most (Err fault) low most few small = tt

four_octets-most : (a b c d : List ℕ) → AtMost (address_in (a ∷ b ∷ c ∷ d ∷ [])) 4294967295
four_octets-most a b c d =
    let first = with_octet-most (Ok 0) (number_of a 255) 0 (omega arith) (number_of-most a 255) in
    let second = with_octet-most _ (number_of b 255) 255 first (number_of-most b 255) in
    let third = with_octet-most _ (number_of c 255) 65535 second (number_of-most c 255) in
    with_octet-most _ (number_of d 255) 16777215 third (number_of-most d 255)

address_in-most : (parts : List (List ℕ)) → AtMost (address_in parts) 4294967295
address_in-most [] = tt
address_in-most (a ∷ []) = tt
address_in-most (a ∷ b ∷ []) = tt
address_in-most (a ∷ b ∷ c ∷ []) = tt
address_in-most (a ∷ b ∷ c ∷ d ∷ []) = four_octets-most a b c d
address_in-most (a ∷ b ∷ c ∷ d ∷ e ∷ rest) = tt

-- clearing the bits below the length once more changes nothing
cleared : (address size : ℕ) → 0 < size → address / size * size / size * size ≡ address / size * size
cleared address size some = ap (λ (n : ℕ). n * size) (mul-div_cancel (address / size) some)

with_length-bounds : (address length : Result ℕ Lexical) → AtMost address 4294967295 → AtMost length 32 →
    IfOk (with_length address length) IsNet
with_length-bounds (Ok address) (Ok length) few small = record {
  length = small;
  address = (let below = div-mul-le_self address (2 ^ (32 - length)) in omega (arith, below));
  cleared = cleared address (2 ^ (32 - length)) (search rules);
}
with_length-bounds (Ok address) (Err fault) few small = tt
with_length-bounds (Err fault) length few small = tt

net_in-bounds : (parts : List (List ℕ)) → IfOk (net_in parts) IsNet
net_in-bounds [] = tt
net_in-bounds (a ∷ []) = tt
net_in-bounds (address ∷ length ∷ []) =
    with_length-bounds (address_of address) (number_of length 32) (address_in-most (parts_of 46 address))
    (number_of-most length 32)
net_in-bounds (a ∷ b ∷ c ∷ rest) = tt

any_or_net : (parts : List (List ℕ)) (t : Bool) →
    IfOk (cond t (Ok (record { base = 0; length = 0 })) (net_in parts)) IsNet
any_or_net parts true = record { length = omega arith; address = omega arith; cleared = refl }
any_or_net parts false = net_in-bounds parts

pub net_of-bounds : (word : List ℕ) → IfOk (net_of word) IsNet
net_of-bounds word = any_or_net (parts_of 47 word) (bytes_eq word (codes "any"))

pub read_net : (word : List ℕ) (net : Net) → net_of word ≡ Ok net → IsNet net
read_net word net read = let bounds = rw read at (net_of-bounds word) in bounds
