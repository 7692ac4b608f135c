use Rattle.std.proofs.Common.{sym}
use Rattle.ftc_message.proofs.InOrder.{with_item-place}
use Rattle.ftc_message.proofs.rising.put.Goals as goal

pub returns-clause-items : goal.returns-clause-items
returns-clause-items g c =
    rw (
      c.insert-put.ensures.items,
      c.insert-put.ensures.succeeds c.requires.room,
      c.place_among-place.ensures.place,
      c.as_slice.ensures.value,
    ) (sym (with_item-place g.T.Placed.is_before c.args.item c.args.list.now.items))
