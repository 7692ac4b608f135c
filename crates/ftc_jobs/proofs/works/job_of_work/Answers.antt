use Rattle.std.proofs.Common.{◌∙◌, Some, ap}
use Rattle.ftc_server.specs.declared.work.Work.{Work}
use Rattle.ftc_jobs.proofs.works.job_of_work.Goals as goal

pub returns-in-Apply : goal.returns-in-Apply
returns-in-Apply c setting state packets held old rest is there rising works =
    c.what_work_is.ensures.apply setting state c.args.server c.args.origin c.in-Apply.group c.in-Apply.packet held old
    rest.resting.run rest.resting.none_due is there rising (works ∙ ap (λ (work : Work). Some work) c.in-Apply.is)

pub returns-in-Visit : goal.returns-in-Visit
returns-in-Visit c setting state packets held old rest is there rising works =
    c.what_work_is.ensures.visit setting state c.args.server c.args.origin old rest.resting.run rest.resting.none_due is
    (works ∙ ap (λ (work : Work). Some work) c.in-Visit.is)

pub returns-in-Send : goal.returns-in-Send
returns-in-Send c setting state packets held old rest is there rising works =
    c.leave_job.ensures setting state packets old rest is (works ∙ ap (λ (work : Work). Some work) c.in-Send.is)

pub returns-in-Carry : goal.returns-in-Carry
returns-in-Carry c setting state packets held old rest is there rising works =
    c.what_work_is.ensures.carry setting state c.args.server c.args.origin old rest.resting.run rest.resting.none_due is
    (works ∙ ap (λ (work : Work). Some work) c.in-Carry.is)
