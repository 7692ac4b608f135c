use Rattle.ftc_base.proofs.Results.{on_any_err}
use Rattle.ftc_stream.proofs.Leaving.{left_one_more, told_short}
use Rattle.ftc_stream.specs.LeavingLaws.{left_none}
use Rattle.ftc_stream.proofs.taps.Taps.tell_all.Goals as goal

pub loop-item-init : goal.loop-item-init
loop-item-init g c = left_none _

pub returns-in_err-tell-clause-part : goal.returns-in_err-tell-clause-part
returns-in_err-tell-clause-part g c =
    on_any_err c.from_residual.result _
    (told_short c.args.items.now c.loop-item.item-index c.item-item.result _ _ _ c.loop-item.invariant
    c.in_err-tell.ensures.part)

pub loop-item-preserved : goal.loop-item-preserved
loop-item-preserved g c =
    left_one_more c.args.items.now c.loop-item.item-index c.item-item.result _ _ _ c.loop-item-test.true c.item-item.is
    c.loop-item.invariant c.in_ok-tell.ensures.told
