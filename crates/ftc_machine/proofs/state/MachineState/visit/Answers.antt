use Rattle.std.proofs.Common.{◌∙◌, List, ap}
use Rattle.ftc_base.proofs.Results.{on_ok_map, on_err_map}
use Rattle.ftc_journal.specs.declared.event.VisitName.{VisitName}
use Rattle.ftc_serial.specs.Trace.{names}
use Rattle.ftc_machine.proofs.VisitOutcomes.{outcome_is, logs_are}
use Rattle.ftc_machine.proofs.state.MachineState.visit.Goals as goal

pub returns-clause-ok : goal.returns-clause-ok
returns-clause-ok c = on_ok_map c.add_visit.result _ _ (λ after setting s worker rule now may is.
    let k = c.make_visit_room.new.self in
    let mid = c.make_visit_room.ensures.still setting s is in
    after setting s worker now
    (c.in_ok-told.ensures ∙ outcome_is setting s c.args.server c.args.packet worker may k mid c.args.rule.now rule)
    (λ group number. ap (λ (list : List VisitName). names list group number) c.in_ok-logs.ensures
    ∙ logs_are setting s c.args.server c.args.packet worker may k mid c.in_ok-told.told.answers.items group number) may
    mid) c.add_visit.ensures.ok

pub returns-clause-err : goal.returns-clause-err
returns-clause-err c = on_err_map c.add_visit.result _ _
    (λ after setting s is. after setting s (c.make_visit_room.ensures.still setting s is)) c.add_visit.ensures.err
