-- Reading a field from the front of bytes: its value and the bytes behind it, or the fault of the field.
use Rattle.std.specs.Prelude.{ℕ, ◌&&◌, nat_lt, nat_le, List, [], ◌∷◌, length, take, drop, Result, Ok, Err}
use Rattle.std.specs.Prelude.{if◌then◌else◌}
use Rattle.ftc_base.specs.Reading.{◌>>=◌, ◌>>◌, unless}
use Rattle.ftc_base.specs.declared.limits.TheConstants.{MOST_SERVERS}
use Rattle.ftc_message.specs.declared.fault.FrameCause.{FrameCause}
use Rattle.ftc_message.specs.declared.fault.FrameCause.TheVariants.{Cut, Range}
use Rattle.ftc_message.specs.declared.fault.FieldFault.{FieldFault}
use Rattle.ftc_message.specs.Numbers.{number_of}

-- the fault of the field that stands at the front of these bytes
abbrev pub fault_of : List ℕ → FrameCause → FieldFault
fault_of bytes cause = record { left = length bytes; cause = cause }

-- that fault in place of the field's value
abbrev pub fault_at : {A : Type 0} → List ℕ → FrameCause → Result A FieldFault
fault_at bytes cause = Err (fault_of bytes cause)

-- the next byte
unfoldable pub byte_at : List ℕ → Result (ℕ × List ℕ) FieldFault
byte_at [] = fault_at [] Cut
byte_at (byte ∷ rest) = Ok (byte, rest)

-- a byte from `least` to `most`
unfoldable pub within_at : ℕ → ℕ → List ℕ → Result (ℕ × List ℕ) FieldFault
within_at least most bytes = do
  byte ← byte_at bytes
  unless (nat_le least byte.0 && nat_le byte.0 most) (fault_of bytes Range)
  Ok byte

-- so many bytes
unfoldable pub taken_at : ℕ → List ℕ → Result (List ℕ × List ℕ) FieldFault
taken_at count bytes = if nat_lt (length bytes) count then fault_at bytes Cut
    else Ok (take count bytes, drop count bytes)

-- a number of so many bytes
unfoldable pub integer_at : ℕ → List ℕ → Result (ℕ × List ℕ) FieldFault
integer_at count bytes = do
  front ← taken_at count bytes
  Ok (number_of count front.0, front.1)

-- a group
unfoldable pub group_at : List ℕ → Result (ℕ × List ℕ) FieldFault
group_at bytes = do
  byte ← byte_at bytes
  unless (nat_lt byte.0 MOST_SERVERS) (fault_of bytes Range)
  Ok byte
