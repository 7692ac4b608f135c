use Rattle.std.proofs.Common.{sym, subst, arith}
use Rattle.ftc_message.specs.Ordered.{HasNoNeed}
use Rattle.ftc_message.proofs.RiseLaws.{are_needs-with, needs_by_order}
use Rattle.ftc_message.proofs.need.Needs.insert.Goals as goal

pub put-requires-clause-rising : goal.put-requires-clause-rising
put-requires-clause-rising c =
    rw c.reserve.ensures.items (needs_by_order c.self.inside.list.items c.self.invariant.rising)

pub invariant_of-self-2 : goal.invariant_of-self-2
invariant_of-self-2 c =
    rw (c.put.ensures.items, c.reserve.ensures.items)
    (are_needs-with c.args.need c.self.inside.list.items
    (record {
      group = omega (arith, c.number.ensures.within, c.number.ensures.same);
      marks = c.at.ensures.bounds;
    }) c.self.invariant
    (subst (HasNoNeed c.args.need) (sym c.self.view_is) c.requires))
