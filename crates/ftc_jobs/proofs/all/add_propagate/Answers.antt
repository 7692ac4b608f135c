use Rattle.std.proofs.Common.{ℕ}
use Rattle.std.proofs.lemmas.Result.{on_ok_weaker}
use Rattle.ftc_journal.specs.declared.job.Job.TheVariants.{Propagate}
use Rattle.ftc_jobs.specs.All.{is_running_by}
use Rattle.ftc_jobs.proofs.AllJobs.{adds_found, adds_not_found}
use Rattle.ftc_jobs.proofs.all.add_propagate.Goals as goal

pub returns-in-Some : goal.returns-in-Some
returns-in-Some c = on_ok_weaker c.push.result (λ grown setting state rest.
    adds_found (is_running_by c.args.network.now) setting state (λ (number : ℕ). Propagate number)
    c.propagating.result (λ number. tt) (c.propagating.ensures setting state c.args.script.now rest) c.args.jobs.now
    c.push.new.self c.in-Some.origin c.in-Some.is grown) c.push.ensures.ok

pub returns-in-None : goal.returns-in-None
returns-in-None c setting state rest =
    adds_not_found (is_running_by c.args.network.now) setting state (λ (number : ℕ). Propagate number)
    c.propagating.result (c.propagating.ensures setting state c.args.script.now rest) c.args.jobs.now c.in-None.is
