-- Whether a message may begin without a packet, by what the servers and links have.
use Rattle.std.specs.Prelude.{◌==◌, ◌&&◌, ◌||◌, Bool, true, false, not, nat_lt, length, Option, Some, None, is_some}
use Rattle.std.specs.List.{list_all}
use Rattle.ftc_link.specs.Queue.{Queue}
use Rattle.ftc_server.specs.declared.held.HeldMessage.{HeldMessage}
use Rattle.ftc_server.specs.declared.server.Server.{Server}
use Rattle.ftc_network.specs.declared.network.Network.{Network}
use Rattle.ftc_network.specs.Parts.{server_in, withheld_in}

-- each message that it holds came by the ring link
abbrev pub all_by_ring : Server → Bool
all_by_ring server = list_all (λ (held : HeldMessage). held.by_ring) server.held.items

-- and it is up
abbrev pub came_by_ring : Option Server → Bool
came_by_ring None = false
came_by_ring (Some server) = all_by_ring server

abbrev pub has_forwarded : Option Server → Bool
has_forwarded None = false
has_forwarded (Some server) = nat_lt 0 (length server.forwarder)

abbrev pub holds_nothing : Option Server → Bool
holds_nothing None = true
holds_nothing (Some server) = length server.held.items == 0

-- no message and no gap
abbrev pub is_clear : Queue → Bool
is_clear queue = (length queue.messages == 0) && not queue.gap

abbrev pub none_held : Network → Bool
none_held network = list_all holds_nothing network.servers.items

abbrev pub all_clear : Network → Bool
all_clear network = list_all is_clear network.links.items

abbrev pub all_up : Network → Bool
all_up network = list_all (λ (slot : Option Server). is_some slot) network.servers.items

-- the forwarder has logs, or nothing moves any more while a packet is withheld
abbrev pub is_wanted : Network → Bool
is_wanted network =
    has_forwarded (server_in network.servers.items 0)
    || (nat_lt 0 (withheld_in network) && (none_held network && all_clear network))

abbrev pub may_begin : Network → Bool
may_begin network = came_by_ring (server_in network.servers.items 0) && (all_up network && is_wanted network)
