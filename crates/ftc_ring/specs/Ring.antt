-- The ring of servers, how far they are apart on it, and its groups.
use Rattle.std.specs.Prelude.{ℕ, suc, zero, ◌≤◌, ◌<◌, ◌+◌, ◌-◌, ◌==◌, nat_le, List, [], ◌∷◌, if◌then◌else◌}
use Rattle.ftc_base.specs.declared.limits.TheConstants.{MOST_SERVERS}

-- how many servers stand in the ring, and how many of them may be down at once
pub record RingShape : Type 0 where
  pub servers : ℕ
  pub failures : ℕ

-- at least one server and not too many, and fewer failures than servers
pub record IsRing (ring : RingShape) : Type 0 where
  pub some : 1 ≤ ring.servers
  pub servers : ring.servers ≤ MOST_SERVERS
  pub failures : ring.failures < ring.servers

-- how many links lead from a server to another, in a ring of so many
abbrev pub apart : ℕ → ℕ → ℕ → ℕ
apart count from to = if nat_le from to then to - from else to + count - from

-- a server is a member of a group where at most f links lead to it from the group's head
abbrev pub IsMember : RingShape → ℕ → ℕ → Type 0
IsMember ring group server = apart ring.servers group server ≤ ring.failures

-- the server behind a link, and the server before it
abbrev pub next_of : ℕ → ℕ → ℕ
next_of count server = if server + 1 == count then 0 else server + 1

abbrev pub previous_of : ℕ → ℕ → ℕ
previous_of count server = if server == 0 then count - 1 else server - 1

-- the last member of a group: f links lead to it from the head
abbrev pub tail_of : RingShape → ℕ → ℕ
tail_of ring group =
    if nat_le ring.servers (group + ring.failures) then group + ring.failures - ring.servers else group + ring.failures

-- so many servers, from one on along the links
abbrev pub along : ℕ → ℕ → ℕ → List ℕ
along count zero server = []
along count (suc more) server = server ∷ along count more (next_of count server)

-- so many servers, from one on against the links
abbrev pub against : ℕ → ℕ → ℕ → List ℕ
against count zero server = []
against count (suc more) server = server ∷ against count more (previous_of count server)

-- the members of a group, from its head to its tail
abbrev pub members_of : RingShape → ℕ → List ℕ
members_of ring group = along ring.servers (suc ring.failures) group
