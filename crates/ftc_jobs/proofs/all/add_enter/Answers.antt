use Rattle.std.proofs.Common.{ℕ}
use Rattle.std.proofs.lemmas.Result.{on_ok_weaker}
use Rattle.ftc_journal.specs.declared.job.Job.TheVariants.{Enter}
use Rattle.ftc_jobs.specs.All.{is_running_by}
use Rattle.ftc_jobs.proofs.AllJobs.{adds_found, adds_not_found}
use Rattle.ftc_jobs.proofs.all.add_enter.Goals as goal

pub returns-in-Some : goal.returns-in-Some
returns-in-Some c = on_ok_weaker c.push.result (λ grown setting state rest.
    adds_found (is_running_by c.args.network.now) setting state (λ (number : ℕ). Enter number) c.entering.result
    (λ number. tt) (c.entering.ensures setting state rest) c.args.jobs.now c.push.new.self
    c.in-Some.packet c.in-Some.is grown) c.push.ensures.ok

pub returns-in-None : goal.returns-in-None
returns-in-None c setting state rest =
    adds_not_found (is_running_by c.args.network.now) setting state (λ (number : ℕ). Enter number) c.entering.result
    (c.entering.ensures setting state rest) c.args.jobs.now c.in-None.is
