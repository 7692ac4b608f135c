-- What a server that begins anew gets from the two live servers next to it.
use Rattle.std.specs.Prelude.{ℕ, ◌≡◌, ◌≢◌, ◌<◌, true, List, Some, find}
use Rattle.std.specs.List.{AllByRecursion}
use Rattle.ftc_replica.specs.Held.{Held}
use Rattle.ftc_serial.specs.Words.{EachLater}
use Rattle.ftc_protocol.specs.Setting.{Setting, servers, is_member}
use Rattle.ftc_protocol.specs.State.{ChainState}
use Rattle.ftc_server.specs.declared.recovering.GroupReplica.{GroupReplica}
use Rattle.ftc_server.specs.declared.server.Server.{Server}
use Rattle.ftc_standing.specs.Stand.{got_by}
use Rattle.ftc_refinement.specs.Contents.{contents_of}
use Rattle.ftc_refinement.specs.Pulled.{is_of_group}

-- It is the replica of a group that the server is a later member of.
pub record IsGot (setting : Setting) (state : ChainState) (server : ℕ) (previous following : Server)
    (new : GroupReplica) :
    Type 0 where
  pub inside : new.group < servers setting
  pub member : is_member setting new.group server ≡ true
  pub later : new.group ≢ server
  pub replica : got_by setting state server (contents_of previous) (contents_of following) new.group ≡ Some new.replica

-- the replica of the server's own group, and one for each group that it is a later member of
pub record AreGot (setting : Setting) (state : ChainState) (server : ℕ) (previous following : Server) (own : Held)
    (news : List GroupReplica) : Type 0 where
  pub head : got_by setting state server (contents_of previous) (contents_of following) server ≡ Some own
  pub each : AllByRecursion (IsGot setting state server previous following) news
  pub once : EachLater (λ (one other : GroupReplica). one.group ≢ other.group) news
  pub all : (group : ℕ) → group < servers setting → is_member setting group server ≡ true → group ≢ server →
      (new : GroupReplica) × (find (is_of_group group) news ≡ Some new)
