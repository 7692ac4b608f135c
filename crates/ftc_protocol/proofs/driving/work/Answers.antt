use Rattle.ftc_protocol.specs.State.{opening}
use Rattle.ftc_protocol.specs.Run.{state_after}
use Rattle.ftc_protocol.proofs.FirstJobInTurn.{one_work, visit_works, pass_works, lose_works, carry_works}
use Rattle.ftc_protocol.proofs.Complete.{reached}
use Rattle.ftc_protocol.proofs.MessageWork.{work_or_none}
use Rattle.ftc_protocol.proofs.FirstJobExists.{counted_at}
use Rattle.ftc_protocol.proofs.driving.work.Goals as goal

pub returns-clause-visit : goal.returns-clause-visit
returns-clause-visit c = visit_works

pub returns-clause-pass : goal.returns-clause-pass
returns-clause-pass c = pass_works

pub returns-clause-lose : goal.returns-clause-lose
returns-clause-lose c = lose_works

pub returns-clause-carry : goal.returns-clause-carry
returns-clause-carry c = λ setting is journal run origin. carry_works setting
    (state_after setting (opening setting) journal) (let at = reached setting is journal run in at.fated) origin

pub returns-clause-single : goal.returns-clause-single
returns-clause-single c = one_work

pub returns-clause-exists : goal.returns-clause-exists
returns-clause-exists c = λ setting is journal run server origin.
    work_or_none setting is (state_after setting (opening setting) journal)
    (counted_at setting is journal run) server origin
