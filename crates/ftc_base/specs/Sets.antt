-- Sets of small numbers.
use Rattle.std.specs.Prelude.{ℕ, Bool, ◌==◌}
use Rattle.std.specs.Int.{bit_at}

-- the number is a member of the set
unfoldable pub has : ℕ → ℕ → Bool
has set number = bit_at set number == 1
