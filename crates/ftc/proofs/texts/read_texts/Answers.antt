use Rattle.std.proofs.Common.{rules, IfErr}
use Rattle.std.proofs.lemmas.Result.{IfErr-weaker}
use Rattle.ftc_outside.specs.Desk.{Files, SameFiles}
use Rattle.ftc_words.specs.Shown.{named_of, shown_mode}
use Rattle.ftc.specs.Refused.{IsInputRefused, IsScheduleRefused}
use Rattle.ftc.proofs.Refusing.{refused_first, schedule_refused, schedule_refused_before, schedule_before}
use Rattle.ftc.proofs.texts.read_texts.Goals as goal

pub returns-in_err-inputs-clause-refused : goal.returns-in_err-inputs-clause-refused
returns-in_err-inputs-clause-refused g c = λ t.
    refused_first c.from_residual.result (IsInputRefused (g.D.Desk.sound c.args.desk.now) (named_of c.args.names)
    (g.D.Desk.file c.args.desk.now)) _ (search (rules, c.read_inputs.ensures.refused t))

pub returns-in_err-schedule-clause-refused : goal.returns-in_err-schedule-clause-refused
returns-in_err-schedule-clause-refused g c = λ t.
    let old : Files = g.D.Desk.file c.args.desk.now in
    let read : Files = g.D.Desk.file c.read_inputs.new.desk in
    let to_read : SameFiles old read = c.read_inputs.ensures.files t in
    let refused : IfErr c.from_residual-in_err-schedule.result
    (IsScheduleRefused (g.D.Desk.sound c.read_inputs.new.desk) (shown_mode c.args.mode) read) =
    search (rules, c.fetch_schedule.ensures.refused (c.read_inputs.ensures.served.tells_on t)) in
    IfErr-weaker c.from_residual-in_err-schedule.result _ _
    (λ ending is. schedule_refused (g.D.Desk.sound c.args.desk.now) (named_of c.args.names) (shown_mode c.args.mode) old
    c.in_ok-inputs.inputs.spec c.in_ok-inputs.inputs.capture c.in_ok-inputs.inputs.script ending
    (c.in_ok-inputs.ensures.accepted t)
    (schedule_refused_before (g.D.Desk.sound c.args.desk.now) (g.D.Desk.sound c.read_inputs.new.desk)
    (shown_mode c.args.mode) old read ending c.read_inputs.ensures.served.sound_on to_read is)) refused

pub returns-clause-accepted : goal.returns-clause-accepted
returns-clause-accepted g c = λ t.
    let old : Files = g.D.Desk.file c.args.desk.now in
    let read : Files = g.D.Desk.file c.read_inputs.new.desk in
    record {
      inputs = c.in_ok-inputs.ensures.accepted t;
      schedule_right = schedule_before (shown_mode c.args.mode) old read c.in_ok-schedule.schedule.items
          (c.read_inputs.ensures.files t) (c.in_ok-schedule.ensures.accepted (c.read_inputs.ensures.served.tells_on t));
    }
