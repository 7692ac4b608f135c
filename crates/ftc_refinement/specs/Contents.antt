-- What a server has, as what stands for a state of the protocol.
use Rattle.std.specs.Prelude.{ℕ, ◌≡◌, List, map, None}
use Rattle.ftc_protocol.specs.Setting.{Setting, shape, rule_at}
use Rattle.ftc_protocol.specs.State.{ChainState}
use Rattle.ftc_server.specs.declared.held.HeldMessage.{HeldMessage}
use Rattle.ftc_server.specs.declared.server.Server.{Server}
use Rattle.ftc_server.specs.Looks.{replica_or_own}
use Rattle.ftc_standing.specs.Stand.{HeldItem, ServerContents, IsServer, item_of}

abbrev pub item_of_held : HeldMessage → HeldItem
item_of_held held = item_of held.visited held.by_ring held.message

abbrev pub items_of : List HeldMessage → List HeldItem
items_of messages = map item_of_held messages

abbrev pub contents_of : Server → ServerContents
contents_of server = record {
  head = replica_or_own server None;
  later = server.others.items;
  known = server.known;
  held = items_of server.held.items;
  withheld = server.buffer.items;
  forwarded = server.forwarder;
}

-- It is the server with that number in a chain of this setting, and what it has stands for what is there.
pub record IsServerAt (setting : Setting) (state : ChainState) (number : ℕ) (server : Server) : Type 0 where
  pub ring : server.ring ≡ shape setting
  pub number_is : server.id ≡ number
  pub rule : server.rule ≡ rule_at setting number
  pub partitions : server.partitions ≡ setting.partitions
  pub stands : IsServer setting state number (contents_of server)
