use Rattle.std.proofs.Common.{ℕ}
use Rattle.std.proofs.lemmas.Result.{on_ok_weaker}
use Rattle.ftc_journal.specs.declared.job.Job.TheVariants.{Pull, Take}
use Rattle.ftc_jobs.specs.All.{is_running_by}
use Rattle.ftc_jobs.proofs.AllJobs.{adds_found, adds_itself, adds_not_found}
use Rattle.ftc_jobs.proofs.JobKinds.{link_jobs}
use Rattle.ftc_jobs.proofs.all.add_link.Goals as goal

pub returns-in-Some : goal.returns-in-Some
returns-in-Some c = on_ok_weaker c.push.result (λ grown setting state rest.
    let link = c.args.link in
    let runs = is_running_by c.args.network.now in
    link_jobs runs setting state link c.args.jobs.now c.add_if.new.jobs c.push.new.self
    (adds_itself runs setting state c.args.jobs.now c.add_if.new.jobs c.may_pull.result (Pull link) tt
    c.in_ok-add_if.ensures (c.may_pull.ensures setting state rest))
    (adds_found runs setting state (λ (origin : ℕ). Take link origin) c.oldest_at.result (λ origin. tt)
    (λ origin. c.oldest_at.ensures setting state origin rest) c.add_if.new.jobs c.push.new.self c.in-Some.origin
    c.in-Some.is
    grown)) c.push.ensures.ok

pub returns-in-None : goal.returns-in-None
returns-in-None c setting state rest =
    let link = c.args.link in
    let runs = is_running_by c.args.network.now in
    link_jobs runs setting state link c.args.jobs.now c.add_if.new.jobs c.add_if.new.jobs
    (adds_itself runs setting state c.args.jobs.now c.add_if.new.jobs c.may_pull.result (Pull link) tt
    c.in_ok-add_if.ensures (c.may_pull.ensures setting state rest))
    (adds_not_found runs setting state (λ (origin : ℕ). Take link origin) c.oldest_at.result
    (λ origin. c.oldest_at.ensures setting state origin rest) c.add_if.new.jobs c.in-None.is)
