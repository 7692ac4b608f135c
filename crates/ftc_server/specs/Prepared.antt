-- What the commit of a visit leaves.
use Rattle.std.specs.Prelude.{ℕ, ◌≡◌, ◌↔◌, List, [], Option, Some, None, IsNone, IfSome}
use Rattle.ftc_base.specs.declared.ask.Write.{Write}
use Rattle.ftc_message.specs.Logged.{Logged}
use Rattle.ftc_base.specs.declared.ask.Finish.{Finish as End}
use Rattle.ftc_txn.specs.Slots.{Running, slot_at}
use Rattle.ftc_txn.specs.Head.{HeadState}
use Rattle.ftc_txn.specs.Logs.{IsLogOf}
use Rattle.ftc_server.specs.declared.held.HeldMessage.{HeldMessage}
use Rattle.ftc_server.specs.declared.server.Server.{Server}
use Rattle.ftc_server.specs.declared.visited.Visited.{Visited}
use Rattle.ftc_server.specs.Holding.{found}
use Rattle.ftc_server.specs.Visited.{visit_of}

-- what the slot runs leaves this log: the one of its packet, its answers and these writes, where there are answers
abbrev pub IsLogLeft : HeadState → Option Running → List Write → Option Logged → Type 0
IsLogLeft head None writes log = log ≡ None
IsLogLeft head (Some running) writes log =
    (IsNone log ↔ (running.answers ≡ []))
    × IfSome log (IsLogOf head.group head.partitions head.vector running.packet running.answers writes)

-- what the visit of what a slot runs makes of its message, with this end and this log
pub record IsPrepared (server : Server) (worker : ℕ) (end : End) (log : Option Logged) (visited : Visited)
    : Type 0 where
  pub running : Running
  pub runs : slot_at server.head.slots worker ≡ Some running
  pub before : HeldMessage
  pub there : found running.packet server.held.items ≡ Some before
  pub packet : List ℕ
  pub with_packet : before.message.packet ≡ Some packet
  pub visited_is : visited ≡ visit_of server.ring.failures log packet end.verdict before.message
