use Rattle.std.proofs.Common.{◌≤◌, arith}
use Rattle.ftc_journal.specs.declared.job.Job.TheVariants as job
use Rattle.ftc_protocol.specs.Jobs.{IsLegalJob}
use Rattle.ftc_protocol.specs.Setting.{servers}
use Rattle.ftc_jobs.proofs.Chosen.{found_none, found_same, never}
use Rattle.ftc_jobs.proofs.Sizes.{size_of}
use Rattle.ftc_jobs.proofs.legal.may_take.Goals as goal

pub returns-then-number-servers : goal.returns-then-number-servers
returns-then-number-servers c setting state rest =
    let size = size_of setting state c.args.network.now rest in
    let outside : servers setting ≤ c.args.link = omega arith in
    never (IsLegalJob setting state (job.Take c.args.link c.args.origin))
    (c.what_a_link_offers.ensures.outside setting state c.args.link c.args.origin rest.run outside)

pub returns-in-Some : goal.returns-in-Some
returns-in-Some c setting state rest =
    found_same (IsLegalJob setting state (job.Take c.args.link c.args.origin)) c.oldest_at.result c.in-Some.oldest
    c.args.origin c.in-Some.is (c.oldest_at.ensures setting state c.args.origin rest)

pub returns-in-None : goal.returns-in-None
returns-in-None c setting state rest =
    found_none (IsLegalJob setting state
    (job.Take c.args.link c.args.origin)) c.oldest_at.result c.args.origin c.in-None.is
    (c.oldest_at.ensures setting state c.args.origin rest)
