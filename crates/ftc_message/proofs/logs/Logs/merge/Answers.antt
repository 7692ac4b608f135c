use Rattle.std.proofs.Common.{sym, subst}
use Rattle.ftc_message.specs.Ordered.{AreApart}
use Rattle.ftc_message.proofs.RiseLaws.{are_logs-with_items, logs_by_order, logs_apart}
use Rattle.ftc_message.proofs.logs.Logs.merge.Goals as goal

pub merge-requires-clause-rising : goal.merge-requires-clause-rising
merge-requires-clause-rising c = logs_by_order c.self.inside.list.items c.self.invariant.rising

pub merge-requires-clause-others : goal.merge-requires-clause-others
merge-requires-clause-others c =
    rw c.into_vec.ensures.items (logs_by_order c.args.other c.into_vec.ensures.bounds.rising)

pub merge-requires-clause-apart : goal.merge-requires-clause-apart
merge-requires-clause-apart c =
    rw (c.into_vec.ensures.items, c.self.view_is) (logs_apart c.args.other c.args.self.now c.requires)

pub invariant_of-self-2 : goal.invariant_of-self-2
invariant_of-self-2 c =
    rw (c.in_ok-merge.ensures.ok, c.into_vec.ensures.items)
    (are_logs-with_items c.args.other c.self.inside.list.items c.into_vec.ensures.bounds c.self.invariant
    (subst (AreApart c.args.other) (sym c.self.view_is) c.requires))
