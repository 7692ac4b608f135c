use Rattle.ftc_base.proofs.Results.{on_any_err}
use Rattle.ftc_stream.proofs.Telling.{told_to_none}
use Rattle.ftc_stream.proofs.putting.put.Goals as goal

pub returns-in_err-record-clause-told_in_part : goal.returns-in_err-record-clause-told_in_part
returns-in_err-record-clause-told_in_part g c = on_any_err c.from_residual.result _ (told_to_none c.args.item.now _)

pub returns-in_err-append-clause-told_in_part : goal.returns-in_err-append-clause-told_in_part
returns-in_err-append-clause-told_in_part g c =
    on_any_err c.from_residual-in_err-append.result _ (told_to_none c.args.item.now _)
