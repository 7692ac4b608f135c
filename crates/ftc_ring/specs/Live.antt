-- Which servers of a ring are live, where some are down.
use Rattle.std.specs.Prelude.{◌≡◌, ◌≢◌, ℕ, ◌≤◌, ◌<◌, ◌-◌, ◌==◌, Bool, true, false, not, nat_le, Option, Some, None}
use Rattle.std.specs.Prelude.{if◌then◌else◌}
use Rattle.std.specs.Option.{is_none}
use Rattle.std.specs.List.{find, range_with_len}
use Rattle.ftc_base.specs.Sets.{has}
use Rattle.ftc_ring.specs.Ring.{RingShape, apart, IsMember, next_of, previous_of, along, against, members_of}

-- the servers that are live where a set of servers is down
abbrev pub is_live : ℕ → ℕ → Bool
is_live down server = not (has down server)

-- a test tells which servers are live, and the others are down
abbrev pub IsLive : (ℕ → Bool) → ℕ → Type 0
IsLive live server = live server ≡ true

abbrev pub IsDown : (ℕ → Bool) → ℕ → Type 0
IsDown live server = live server ≡ false

-- some member of the group is live
pub record HasLive (ring : RingShape) (live : ℕ → Bool) (group : ℕ) : Type 0 where
  pub server : ℕ
  pub within : server < ring.servers
  pub member : IsMember ring group server
  pub up : IsLive live server

-- all members of the group are down
pub record IsGone (ring : RingShape) (live : ℕ → Bool) (group : ℕ) : Type 0 where
  pub each : (server : ℕ) → server < ring.servers → IsMember ring group server → IsDown live server

-- each group has a live member
pub record IsAdmissible (ring : RingShape) (live : ℕ → Bool) : Type 0 where
  pub each : (group : ℕ) → group < ring.servers → HasLive ring live group

-- the live member of a group that is nearest to its head
pub record IsFirstLive (ring : RingShape) (live : ℕ → Bool) (group server : ℕ) : Type 0 where
  pub within : server < ring.servers
  pub member : IsMember ring group server
  pub up : IsLive live server
  pub nearest : (other : ℕ) → other < ring.servers → IsLive live other →
      apart ring.servers group server ≤ apart ring.servers group other

-- the smallest group without a live member
pub record IsFirstGone (ring : RingShape) (live : ℕ → Bool) (group : ℕ) : Type 0 where
  pub within : group < ring.servers
  pub gone : IsGone ring live group
  pub smallest : (other : ℕ) → other < group → HasLive ring live other

-- the other live server from which the fewest links lead to a server, in a ring of so many
pub record IsLiveBefore (count : ℕ) (live : ℕ → Bool) (server before : ℕ) : Type 0 where
  pub within : before < count
  pub other : before ≢ server
  pub up : IsLive live before
  pub nearest : (third : ℕ) → third < count → third ≢ server → IsLive live third →
      apart count before server ≤ apart count third server

-- the other live server to which the fewest links lead from a server
pub record IsLiveAfter (count : ℕ) (live : ℕ → Bool) (server after : ℕ) : Type 0 where
  pub within : after < count
  pub other : after ≢ server
  pub up : IsLive live after
  pub nearest : (third : ℕ) → third < count → third ≢ server → IsLive live third →
      apart count server after ≤ apart count server third

-- all servers but one are down
abbrev pub IsAlone : ℕ → (ℕ → Bool) → ℕ → Type 0
IsAlone count live server = (other : ℕ) → other < count → other ≢ server → IsDown live other

-- the same as functions that compute, with None where there is no such server or group
abbrev pub first_live_of : RingShape → (ℕ → Bool) → ℕ → Option ℕ
first_live_of ring live group = find live (members_of ring group)

abbrev pub gone_of : RingShape → (ℕ → Bool) → Option ℕ
gone_of ring live = find (λ group. is_none (first_live_of ring live group)) (range_with_len 0 ring.servers)

abbrev pub live_before_of : ℕ → (ℕ → Bool) → ℕ → Option ℕ
live_before_of count live server = find live (against count (count - 1) (previous_of count server))

abbrev pub live_after_of : ℕ → (ℕ → Bool) → ℕ → Option ℕ
live_after_of count live server = find live (along count (count - 1) (next_of count server))

-- whether a new server gets the list of a group from the nearest live server before it: where the group's head lies
-- from the first head of its groups up to that server, and not behind it
abbrev pub is_from_before : ℕ → ℕ → ℕ → ℕ → Bool
is_from_before count before group server = nat_le (apart count before server) (apart count group server)

-- from which of the two nearest live servers a new server gets the list of a group
abbrev pub source_between : ℕ → ℕ → ℕ → ℕ → ℕ → ℕ
source_between count before after group server = if is_from_before count before group server then before else after

abbrev pub source_in : ℕ → ℕ → ℕ → Option ℕ → Option ℕ → Option ℕ
source_in count group server (Some before) (Some after) = Some (source_between count before after group server)
source_in count group server (Some before) None = None
source_in count group server None after = None

abbrev pub source_of : ℕ → (ℕ → Bool) → ℕ → ℕ → Option ℕ
source_of count live group server =
    source_in count group server (live_before_of count live server) (live_after_of count live server)

-- how many links lead from the live server before to the live server after: once round the ring where they are the same
abbrev pub span : ℕ → ℕ → ℕ → ℕ
span count before after = if before == after then count else apart count before after

-- a server lies strictly between the two: where they are the same, every other server does
pub record IsBetween (count before after server : ℕ) : Type 0 where
  pub behind : 0 < apart count before server
  pub ahead : apart count before server < span count before after
