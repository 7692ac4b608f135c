use Rattle.std.proofs.Common.{◌∙◌, sym}
use Rattle.std.proofs.lemmas.Bool.{and_parts}
use Rattle.ftc_protocol.specs.Legal.{is_sent}
use Rattle.ftc_jobs.proofs.TwoParts.{either}
use Rattle.ftc_jobs.proofs.works.leave_job.Goals as goal

pub returns-then-is_lost : goal.returns-then-is_lost
returns-then-is_lost c setting state packets old rest is works =
    let parts = and_parts (is_sent setting c.args.server) (setting.loses c.args.server c.args.origin)
    (sym (c.is_lost.ensures setting state packets rest) ∙ c.if-is_lost.true) in
    c.what_work_is.ensures.lose setting state c.args.server c.args.origin old rest.resting.run rest.resting.none_due is
    works
    parts.0 parts.1

pub returns-else-is_lost : goal.returns-else-is_lost
returns-else-is_lost c setting state packets old rest is works =
    c.what_work_is.ensures.pass setting state c.args.server c.args.origin old rest.resting.run rest.resting.none_due is
    works
    (either (is_sent setting c.args.server) (setting.loses c.args.server c.args.origin)
    (sym (c.is_lost.ensures setting state packets rest) ∙ c.if-is_lost.false))
