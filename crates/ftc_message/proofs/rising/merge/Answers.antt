use Rattle.std.proofs.Common.{sym, subst, ◌∙◌}
use Rattle.ftc_message.specs.Rises.{Rises}
use Rattle.ftc_message.proofs.InOrder.{rises-with_items}
use Rattle.ftc_message.proofs.Merged.{swapped}
use Rattle.ftc_message.proofs.rising.merge.Goals as goal

pub put_all-requires-clause-rising : goal.put_all-requires-clause-rising
put_all-requires-clause-rising g c =
    rw c.reserve.ensures.items (rises-with_items g.T.Placed.is_before g.met.T.Placed.is_order c.args.others.items
    c.args.list.now.items c.requires.others c.requires.rising c.requires.apart)

pub put_all-requires-2-clause-rising : goal.put_all-requires-2-clause-rising
put_all-requires-2-clause-rising g c =
    let same = swapped g.T.Placed.is_before g.met.T.Placed.is_order c.args.others.items c.args.list.now.items
    c.requires.others c.requires.rising c.requires.apart in
    rw (c.replace-fewer.ensures.value, c.replace-fewer.ensures.after, c.reserve-2.ensures.items)
    (subst (Rises g.T.Placed.is_before) same (rises-with_items g.T.Placed.is_before g.met.T.Placed.is_order
    c.args.others.items c.args.list.now.items c.requires.others c.requires.rising c.requires.apart))

pub returns-clause-ok : goal.returns-clause-ok
returns-clause-ok g c =
    let same = swapped g.T.Placed.is_before g.met.T.Placed.is_order c.args.others.items c.args.list.now.items
    c.requires.others c.requires.rising c.requires.apart in
    c.put_all-2.ensures
    ∙ rw (c.replace-fewer.ensures.value, c.replace-fewer.ensures.after, c.reserve-2.ensures.items) (sym same)
