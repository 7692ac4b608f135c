use Rattle.ftc_journal.specs.declared.job.Job.TheVariants as job
use Rattle.ftc_protocol.specs.Jobs.{IsLegalJob}
use Rattle.ftc_jobs.proofs.Chosen.{found_none, found_same}
use Rattle.ftc_jobs.proofs.legal.may_enter.Goals as goal

pub returns-in-Some : goal.returns-in-Some
returns-in-Some c setting state rest =
    found_same (IsLegalJob setting state (job.Enter c.args.packet)) c.entering.result c.in-Some.next c.args.packet
    c.in-Some.is (c.entering.ensures setting state rest c.args.packet)

pub returns-in-None : goal.returns-in-None
returns-in-None c setting state rest =
    found_none (IsLegalJob setting state (job.Enter c.args.packet)) c.entering.result c.args.packet c.in-None.is
    (c.entering.ensures setting state rest c.args.packet)
