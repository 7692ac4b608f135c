-- Sets of visits. A visit goes by its middlebox and its packet.
use Rattle.std.specs.Prelude.{ℕ, ◌≡◌, Bool, true, false, ◌==◌, ◌&&◌, ◌||◌}

abbrev pub Visits : Type 0
Visits = ℕ → ℕ → Bool

abbrev pub In : Visits → ℕ → ℕ → Type 0
In visits server packet = visits server packet ≡ true

abbrev pub no_visits : Visits
no_visits server packet = false

abbrev pub union : Visits → Visits → Visits
union one other server packet = one server packet || other server packet

-- this visit alone, where the test is true, and else none
abbrev pub just : ℕ → ℕ → Bool → Visits
just server packet test other another = (other == server) && (another == packet) && test
