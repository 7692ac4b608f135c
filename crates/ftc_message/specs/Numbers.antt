-- Numbers of several bytes, the highest byte first.
use Rattle.std.specs.Prelude.{ℕ, List}
use Rattle.byteorder.specs.Endian.{big_bytes, big_number}

-- the number in so many bytes
unfoldable pub number_bytes : ℕ → ℕ → List ℕ
number_bytes count number = big_bytes count number

-- the number that so many bytes say
unfoldable pub number_of : ℕ → List ℕ → ℕ
number_of count bytes = big_number count bytes
