-- What the live members of a group have.
use Rattle.std.specs.Prelude.{ℕ, ◌≡◌, ◌<◌, true, List, Some}
use Rattle.ftc_network.specs.declared.network.Network.{Network}
use Rattle.ftc_network.specs.Parts.{server_in}
use Rattle.ftc_protocol.specs.Setting.{Setting, servers, is_member}
use Rattle.ftc_protocol.specs.State.{ChainState}
use Rattle.ftc_protocol.specs.Trace.{content_of}
use Rattle.ftc_ring.specs.Ring.{IsMember}
use Rattle.ftc_server.specs.declared.server.Server.{Server}
use Rattle.ftc_store.specs.Store.{Stored}
use Rattle.ftc_ties.specs.Numbers.{vector_in}

-- the server is up and belongs to the group
pub record IsLiveMember (setting : Setting) (state : ChainState) (server group : ℕ) : Type 0 where
  pub server_within : server < servers setting
  pub group_within : group < servers setting
  pub up : state.up server ≡ true
  pub member : is_member setting group server ≡ true

-- a live member of the group has this store: that of the list of the group's visits that the server has
pub record IsStoreAt (setting : Setting) (state : ChainState) (server group : ℕ) (store : Stored) : Type 0 where
  pub live : IsLiveMember setting state server group
  pub partitions : store.partitions ≡ setting.partitions
  pub content : store.content ≡ content_of state.trace (state.lists server group) group

-- and this vector: the numbers of that list
pub record IsVectorAt (setting : Setting) (state : ChainState) (server group : ℕ) (vector : List ℕ) : Type 0 where
  pub live : IsLiveMember setting state server group
  pub numbers : vector ≡ vector_in setting.partitions state.trace group (state.lists server group)

-- ---- the same of a network

-- a server of the network that is up and belongs to the group
pub record IsMemberIn (network : Network) (server group : ℕ) (member : Server) : Type 0 where
  pub server_within : server < network.ring.servers
  pub group_within : group < network.ring.servers
  pub there : server_in network.servers.items server ≡ Some member
  pub belongs : IsMember network.ring group server
