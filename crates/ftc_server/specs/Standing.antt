-- Where a server stands in the ring.
use Rattle.std.specs.Prelude.{ℕ, ◌+◌, ◌==◌, Bool, not, List, filter, Option, Some, None, if◌then◌else◌}
use Rattle.ftc_message.specs.Logged.{Logged}
pub use Rattle.ftc_ring.specs.Groups.{group_ending_at, is_later_member}
use Rattle.ftc_ring.specs.Ring.{RingShape}
use Rattle.ftc_replica.specs.Held.{Held}
use Rattle.ftc_vector.specs.Commits.{group_raised}

-- it is the last server of the chain
abbrev pub is_last : RingShape → ℕ → Bool
is_last ring server = server + 1 == ring.servers

-- the logs that go on from a server: not those of the group whose last member it is
abbrev pub going_on : RingShape → ℕ → List Logged → List Logged
going_on ring server logs = filter (λ (log : Logged). not (log.group == group_ending_at ring server)) logs

-- what a server knows of the tails where it has this vector of a group: at the group's tail it knows it too
abbrev pub with_own : RingShape → ℕ → ℕ → List ℕ → List (List ℕ) → List (List ℕ)
with_own ring server group vector known =
    if group == group_ending_at ring server then group_raised known group vector else known

abbrev pub with_replica : RingShape → ℕ → ℕ → Option Held → List (List ℕ) → List (List ℕ)
with_replica ring server group None known = known
with_replica ring server group (Some replica) known = with_own ring server group replica.vector known
