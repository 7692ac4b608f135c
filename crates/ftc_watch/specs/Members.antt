-- Sets of servers, as the lists of their members.
use Rattle.std.specs.Prelude.{ℕ, ◌+◌, ◌^◌, Bool, true, ◌&&◌, nat_le, nat_lt, List, [], ◌∷◌}
use Rattle.std.specs.Int.RustNames.{bit_or}
use Rattle.std.specs.List.{list_all}

-- all numbers are below a bound
abbrev pub are_below : ℕ → List ℕ → Bool
are_below bound numbers = list_all (λ number. nat_lt number bound) numbers

-- each number is above the one before, and the first is at least so much
abbrev pub rises_from : ℕ → List ℕ → Bool
rises_from least [] = true
rises_from least (number ∷ numbers) = nat_le least number && rises_from (number + 1) numbers

-- a set with one more member, and with some more
unfoldable pub with_member : ℕ → ℕ → ℕ
with_member set number = bit_or set (2 ^ number)

abbrev pub with_members : ℕ → List ℕ → ℕ
with_members set [] = set
with_members set (number ∷ numbers) = with_members (with_member set number) numbers

abbrev pub set_of : List ℕ → ℕ
set_of numbers = with_members 0 numbers
