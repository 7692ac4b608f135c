-- What the receiver of a link gets where it pulls.
use Rattle.std.specs.Prelude.{ℕ, ◌≡◌, ◌≢◌, ◌<◌, ◌==◌, Bool, true, List, Some, find}
use Rattle.std.specs.List.{AllByRecursion}
use Rattle.ftc_replica.specs.Held.{Held}
use Rattle.ftc_replica.specs.InTurn.{applied_all}
use Rattle.ftc_replica.specs.Kept.{missing}
use Rattle.ftc_ring.specs.Ring.{next_of}
use Rattle.ftc_serial.specs.Words.{EachLater}
use Rattle.ftc_protocol.specs.Setting.{Setting, servers}
use Rattle.ftc_ties.specs.Servers.{is_shared}
use Rattle.ftc_server.specs.declared.recovering.GroupReplica.{GroupReplica}
use Rattle.ftc_server.specs.declared.server.Server.{Server}
use Rattle.ftc_server.specs.Replicas.{replica_at}
use Rattle.ftc_standing.specs.Stand.{replica_kept}
use Rattle.ftc_refinement.specs.Contents.{contents_of}

-- a replica with the logs that it lacks and that another keeps, applied in the order of keeping
abbrev pub pulled : Held → Held → Held
pulled mine theirs = applied_all (missing mine.vector theirs.kept) mine

-- It is of a group that both ends of the link belong to, and is the receiver's with what the sender keeps.
pub record IsPulledOf (setting : Setting) (link : ℕ) (receiver sender : Server) (new : GroupReplica) : Type 0 where
  pub inside : new.group < servers setting
  pub shared : is_shared setting new.group link (next_of (servers setting) link) ≡ true
  pub mine : Held
  pub theirs : Held
  pub mine_is : replica_at receiver.others.items new.group ≡ Some mine
  pub theirs_is : replica_kept link (contents_of sender) new.group ≡ Some theirs
  pub replica : new.replica ≡ pulled mine theirs

abbrev pub is_of_group : ℕ → GroupReplica → Bool
is_of_group group new = new.group == group

-- one for each such group
pub record ArePulled (setting : Setting) (link : ℕ) (receiver sender : Server) (news : List GroupReplica) : Type 0 where
  pub each : AllByRecursion (IsPulledOf setting link receiver sender) news
  pub once : EachLater (λ (one other : GroupReplica). one.group ≢ other.group) news
  pub all : (group : ℕ) → group < servers setting →
      is_shared setting group link (next_of (servers setting) link) ≡ true →
      (new : GroupReplica) × (find (is_of_group group) news ≡ Some new)
