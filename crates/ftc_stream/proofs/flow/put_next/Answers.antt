use Rattle.std.proofs.Common.{rules}
use Rattle.ftc_base.proofs.Results.{on_any_err}
use Rattle.ftc_stream.specs.Records.{is_writable}
use Rattle.ftc_stream.specs.LeavingLaws.{left_none}
use Rattle.ftc_stream.proofs.Leaving.{left_same, left_by_item}
use Rattle.ftc_stream.proofs.flow.put_next.Goals as goal

pub returns-in_err-put-clause-told_in_part : goal.returns-in_err-put-clause-told_in_part
returns-in_err-put-clause-told_in_part g c =
    on_any_err c.from_residual.result _ (c.args.item, _, left_none _, c.in_err-put.ensures.told_in_part)

pub returns-in_err-put-clause-untold : goal.returns-in_err-put-clause-untold
returns-in_err-put-clause-untold g c = λ failed. left_same _ _ (search rules)

pub returns-clause-told : goal.returns-clause-told
returns-clause-told g c =
    left_by_item (is_writable c.args.capture.now.packets c.args.item) c.args.item _ _ c.in_ok-put.ensures.told
    c.in_ok-put.ensures.taps_stay
