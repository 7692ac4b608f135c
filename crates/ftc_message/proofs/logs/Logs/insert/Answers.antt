use Rattle.std.proofs.Common.{sym, subst}
use Rattle.ftc_message.specs.Ordered.{HasNone}
use Rattle.ftc_message.proofs.RiseLaws.{are_logs-with, logs_by_order}
use Rattle.ftc_message.proofs.logs.Logs.insert.Goals as goal

pub put-requires-clause-rising : goal.put-requires-clause-rising
put-requires-clause-rising c =
    rw c.reserve.ensures.items (logs_by_order c.self.inside.list.items c.self.invariant.rising)

pub invariant_of-self-2 : goal.invariant_of-self-2
invariant_of-self-2 c =
    rw (c.put.ensures.items, c.reserve.ensures.items)
    (are_logs-with c.args.log c.self.inside.list.items c.group.ensures.bounds c.self.invariant
    (subst (HasNone c.args.log) (sym c.self.view_is) c.requires))
