-- The address or the net that a word spells, and the bytes of an address with a port.
use Rattle.std.specs.Prelude.{◌≡◌, ◌≤◌, ◌+◌, ◌*◌, ◌-◌, ◌/◌, ◌^◌, ◌==◌, ℕ, Bool, List, [], ◌∷◌, ◌++◌}
use Rattle.std.specs.Prelude.{Result, Ok, Err, if◌then◌else◌, codes}
use Rattle.std.specs.Int.{w16, w32, to_be_bytes}
use Rattle.std.specs.List.{slice_split}
use Rattle.std.specs.Str.{bytes_eq}
use Rattle.ftc_base.specs.Number.{number_of}
use Rattle.ftc_base.specs.declared.lexer.Lexical.{Lexical}
use Rattle.ftc_base.specs.declared.lexer.Lexical.TheVariants.{NotAddress}
use Rattle.ftc_base.specs.declared.network.Net.{Net}

-- the parts of a word round each separator
abbrev pub parts_of : ℕ → List ℕ → List (List ℕ)
parts_of separator word = slice_split (λ byte. byte == separator) word

-- the next part of an address is a number up to 255
abbrev pub with_octet : Result ℕ Lexical → Result ℕ Lexical → Result ℕ Lexical
with_octet (Ok high) (Ok low) = Ok (256 * high + low)
with_octet (Ok high) (Err fault) = Err NotAddress
with_octet (Err fault) low = Err NotAddress

abbrev pub address_in : List (List ℕ) → Result ℕ Lexical
address_in (first ∷ second ∷ third ∷ fourth ∷ []) =
    with_octet (with_octet (with_octet (with_octet (Ok 0) (number_of first 255)) (number_of second 255))
    (number_of third 255)) (number_of fourth 255)
address_in parts = Err NotAddress

-- four numbers up to 255 with dots between them
abbrev pub address_of : List ℕ → Result ℕ Lexical
address_of word = address_in (parts_of 46 word)

-- the address without the bits below the length
abbrev pub base_of : ℕ → ℕ → ℕ
base_of address length = address / 2 ^ (32 - length) * 2 ^ (32 - length)

abbrev pub with_length : Result ℕ Lexical → Result ℕ Lexical → Result Net Lexical
with_length (Ok address) (Ok length) = Ok (record { base = base_of address length; length = length })
with_length (Ok address) (Err fault) = Err NotAddress
with_length (Err fault) length = Err NotAddress

abbrev pub net_in : List (List ℕ) → Result Net Lexical
net_in (address ∷ length ∷ []) = with_length (address_of address) (number_of length 32)
net_in parts = Err NotAddress

-- an address, a slash and a number up to 32; `any` is the net of all addresses
abbrev pub net_of : List ℕ → Result Net Lexical
net_of word = if bytes_eq word (codes "any") then Ok (record { base = 0; length = 0 }) else net_in (parts_of 47 word)

-- a net that a text can spell: a length of at most 32 bits, and no bit of the base below it
pub record IsNet (net : Net) : Type 0 where
  pub length : net.length ≤ 32
  pub address : net.base ≤ 4294967295
  pub cleared : base_of net.base net.length ≡ net.base

-- an address is in a net where it has the net's bits up to the length
abbrev pub contains : Net → ℕ → Bool
contains net address = address / 2 ^ (32 - net.length) == net.base / 2 ^ (32 - net.length)

-- an address and a port as 48 bits, the high bytes first
abbrev pub endpoint : ℕ → ℕ → List ℕ
endpoint address port = to_be_bytes w32 address ++ to_be_bytes w16 port
