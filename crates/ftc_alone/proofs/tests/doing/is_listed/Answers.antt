use Rattle.std.proofs.Common.{◌≡◌, List, subst}
use Rattle.ftc_journal.specs.declared.job.Job.{Job}
use Rattle.ftc_serial.specs.Words.{AnyOf}
use Rattle.ftc_alone.proofs.Listed.{any_at}
use Rattle.ftc_alone.proofs.tests.doing.is_listed.Goals as goal

pub returns-then-is_visit_of : goal.returns-then-is_visit_of
returns-then-is_visit_of c told =
    subst (λ (one : Job). AnyOf (λ (other : Job). other ≡ one) c.args.jobs.now)
    (c.is_visit_of.ensures c.if-is_visit_of.true)
    (subst (λ (jobs : List Job). AnyOf (λ (other : Job). other
    ≡ c.other-item.result) jobs) c.as_slice-other-items.ensures
    (any_at c.as_slice-other-items.result.now c.loop-other.other-index c.other-item.result c.loop-other-test.true
    c.other-item.is))
