use Rattle.std.proofs.Common.{◌≡◌, ℕ, refl, List, Option, Some, None}
use Rattle.ftc_base.specs.declared.ask.Write.{Write}
use Rattle.ftc_message.specs.Logged.{Logged}
use Rattle.ftc_txn.specs.Head.{HeadState}
use Rattle.ftc_txn.specs.Slots.{Running, slot_at, wounded_at}
use Rattle.ftc_txn.specs.Steps.{WouldLog}
use Rattle.ftc_server.specs.Prepared.{IsLogLeft}
use Rattle.ftc_server.proofs.WouldLog.{runs_unwounded}
use Rattle.ftc_server.proofs.server.Server.log_left.Goals as goal

left_by : (head : HeadState) (worker : ℕ) (writes : List Write) (log : Option Logged) →
    wounded_at head.slots worker ≡ None → WouldLog head worker writes log → (slot : Option Running) →
    slot_at head.slots worker ≡ slot → IsLogLeft head slot writes log
left_by head worker writes log unwounded would None is = would.idle is
left_by head worker writes log unwounded would (Some running) is =
    let runs = runs_unwounded head worker running is unwounded in
    (would.no_log running runs, would.logged running runs)

pub returns : goal.returns
returns c = left_by c.args.self.now.head c.args.worker c.args.writes.now.items c.log_of.result c.requires.unwounded
    c.log_of.ensures (slot_at c.args.self.now.head.slots c.args.worker) refl
