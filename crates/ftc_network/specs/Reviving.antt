-- What a server that begins anew gets of each group, from the two live servers next to it.
use Rattle.std.specs.Prelude.{ℕ, List, [], ◌∷◌, if◌then◌else◌}
use Rattle.ftc_mbox.specs.declared.rule.Rule.{Rule}
use Rattle.ftc_replica.specs.Held.{Held}
use Rattle.ftc_ring.specs.Live.{is_from_before}
use Rattle.ftc_ring.specs.Ring.{RingShape}
use Rattle.ftc_serial.specs.Words.{each_below}
use Rattle.ftc_server.specs.declared.recovering.GroupReplica.{GroupReplica}
use Rattle.ftc_server.specs.declared.server.Server.{Server}
use Rattle.ftc_server.specs.Looks.{replica_in}
use Rattle.ftc_server.specs.Standing.{is_later_member}
use Rattle.ftc_server.specs.Steps.{IsRevived}
use Rattle.ftc_vector.specs.Commits.{all_merged}

-- of a group: what the server before has, where the group's head lies up to that one, and else what the server after
-- has
abbrev pub got_of : RingShape → ℕ → Server → Server → ℕ → Held
got_of ring server previous following group =
    if is_from_before ring.servers previous.id group server then replica_in previous group
    else replica_in following group

-- that replica, where it is a later member of the group
abbrev pub fetched_of : RingShape → ℕ → Server → Server → ℕ → List GroupReplica
fetched_of ring server previous following group =
    if is_later_member ring group server
    then record { group = group; replica = got_of ring server previous following group } ∷ [] else []

-- one of each group that it is a later member of
abbrev pub all_fetched : RingShape → ℕ → Server → Server → List GroupReplica
all_fetched ring server previous following = each_below (fetched_of ring server previous following) ring.servers

-- the server begins anew with what it gets of its own group and of those that it is a later member of, and with what
-- both know
abbrev pub IsAnew : RingShape → ℕ → Rule → ℕ → Server → Server → Server → Type 0
IsAnew ring server rule partitions previous following new =
    IsRevived ring server rule partitions (got_of ring server previous following server)
    (all_fetched ring server previous following) (all_merged previous.known following.known) new
