-- What a network has, without the facts that its type holds.
use Rattle.std.specs.Prelude.{ℕ, ◌-◌, false, List, [], length, Option, Some, None, slice_index_or}
use Rattle.ftc_edge.specs.declared.buffer.Withheld.{Withheld}
use Rattle.ftc_link.specs.Queue.{Queue}
use Rattle.ftc_network.specs.declared.network.Network.{Network}
use Rattle.ftc_ring.specs.Ring.{RingShape}
use Rattle.ftc_server.specs.declared.server.Server.{Server}
use Rattle.ftc_visits.specs.declared.visit.MadeVisit.{MadeVisit}

pub record NetworkParts : Type 0 where
  pub ring : RingShape
  pub partitions : ℕ
  pub servers : List (Option Server)
  pub links : List Queue
  pub entered : ℕ
  pub done : ℕ
  pub propagates : ℕ
  pub visits : List MadeVisit

abbrev pub parts_of : Network → NetworkParts
parts_of network = record {
  ring = network.ring;
  partitions = network.partitions;
  servers = network.servers.items;
  links = network.links.items;
  entered = network.entered;
  done = network.done;
  propagates = network.propagates;
  visits = network.visits.items;
}

-- the server of that number, none where it is down
abbrev pub server_in : List (Option Server) → ℕ → Option Server
server_in servers number = slice_index_or servers number None

-- the link that leaves the server of that number
abbrev pub link_in : List Queue → ℕ → Queue
link_in links number = slice_index_or links number (record { from = 0; messages = []; gap = false })

-- the packets that are withheld at a server
abbrev pub buffer_of : Option Server → List Withheld
buffer_of None = []
buffer_of (Some server) = server.buffer.items

-- how many packets are withheld at the last server
abbrev pub withheld_in : Network → ℕ
withheld_in network = length (buffer_of (server_in network.servers.items (network.ring.servers - 1)))
