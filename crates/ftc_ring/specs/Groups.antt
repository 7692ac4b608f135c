-- The groups of a server.
use Rattle.std.specs.Prelude.{ℕ, ◌+◌, ◌-◌, ◌==◌, ◌&&◌, Bool, not, nat_le, if◌then◌else◌}
use Rattle.ftc_ring.specs.Ring.{RingShape, apart}

-- the group whose last member a server is
abbrev pub group_ending_at : RingShape → ℕ → ℕ
group_ending_at ring server =
    if nat_le ring.failures server then server - ring.failures else server + ring.servers - ring.failures

-- it belongs to the group and doesn't head it
abbrev pub is_later_member : RingShape → ℕ → ℕ → Bool
is_later_member ring group server = not (group == server) && nat_le (apart ring.servers group server) ring.failures
