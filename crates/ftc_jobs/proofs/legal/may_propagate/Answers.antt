use Rattle.ftc_journal.specs.declared.job.Job.TheVariants as job
use Rattle.ftc_protocol.specs.Jobs.{IsLegalJob}
use Rattle.ftc_jobs.proofs.Chosen.{found_none, found_same}
use Rattle.ftc_jobs.proofs.legal.may_propagate.Goals as goal

pub returns-in-Some : goal.returns-in-Some
returns-in-Some c setting state script rest =
    found_same (IsLegalJob setting state
    (job.Propagate c.args.origin)) c.propagating.result c.in-Some.next c.args.origin
    c.in-Some.is (c.propagating.ensures setting state script rest c.args.origin)

pub returns-in-None : goal.returns-in-None
returns-in-None c setting state script rest =
    found_none (IsLegalJob setting state (job.Propagate c.args.origin)) c.propagating.result c.args.origin c.in-None.is
    (c.propagating.ensures setting state script rest c.args.origin)
