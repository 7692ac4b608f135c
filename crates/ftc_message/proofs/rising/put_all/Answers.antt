use Rattle.std.proofs.Common.{sym, subst, arith}
use Rattle.ftc_message.specs.Rises.{Rises}
use Rattle.ftc_message.proofs.InOrder.{with_items-push, rises-without_items}
use Rattle.ftc_message.proofs.rising.put_all.Goals as goal

pub put-requires-clause-rising : goal.put-requires-clause-rising
put-requires-clause-rising g c =
    rises-without_items g.T.Placed.is_before c.loop-item.rest.items c.loop-item.list.items
    (subst (Rises g.T.Placed.is_before) (sym c.loop-item.invariant.whole) c.requires.rising)

pub loop-item-preserved : goal.loop-item-preserved
loop-item-preserved g c =
    let next = with_items-push g.T.Placed.is_before c.pop.new.self.items c.loop-item.list.items c.in-Some.item in
    record {
      room = omega (arith, c.in-Some.ensures.len);
      whole = rw (c.put.ensures.items, ← next, ← c.in-Some.ensures.items) c.loop-item.invariant.whole;
    }
