-- What a server has, without the facts that its type holds.
use Rattle.std.specs.Prelude.{ℕ, List, Option}
use Rattle.ftc_edge.specs.Due.{WithheldPackets}
use Rattle.ftc_mbox.specs.declared.rule.Rule.{Rule}
use Rattle.ftc_message.specs.Logged.{Logged}
use Rattle.ftc_replica.specs.Held.{Held}
use Rattle.ftc_replica.specs.Kept.{KeptLogs}
use Rattle.ftc_ring.specs.Ring.{RingShape}
use Rattle.ftc_txn.specs.Head.{HeadState}
use Rattle.ftc_server.specs.declared.server.Server.{Server}
use Rattle.ftc_server.specs.Holding.{Holding}

pub record ServerState : Type 0 where
  pub ring : RingShape
  pub id : ℕ
  pub rule : Rule
  pub partitions : ℕ
  pub head : HeadState
  pub own : KeptLogs
  pub others : List (Option Held)
  pub known : List (List ℕ)
  pub held : Holding
  pub buffer : WithheldPackets
  pub forwarder : List Logged

abbrev pub fields_of : Server → ServerState
fields_of server = record {
  ring = server.ring;
  id = server.id;
  rule = server.rule;
  partitions = server.partitions;
  head = server.head;
  own = server.own;
  others = server.others.items;
  known = server.known;
  held = server.held;
  buffer = server.buffer;
  forwarder = server.forwarder;
}
