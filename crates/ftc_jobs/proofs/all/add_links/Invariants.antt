use Rattle.std.proofs.Common.{◌<◌, ℕ}
use Rattle.ftc_journal.specs.declared.job.Job.{Job}
use Rattle.ftc_protocol.specs.Setting.{Setting}
use Rattle.ftc_protocol.specs.State.{ChainState}
use Rattle.ftc_jobs.specs.All.{is_running_by, HasJobsOf, IsOfLink}
use Rattle.ftc_jobs.specs.Rest.{IsResting}
use Rattle.ftc_jobs.proofs.all.add_links.Given as goal

-- those of the links below are there
abbrev pub invariant-loop-number : goal.invariant-loop-number
invariant-loop-number l =
    (setting : Setting) (state : ChainState) → IsResting setting state l.network →
    HasJobsOf (λ (job : Job). (link : ℕ) × (link < l.number) × IsOfLink link job)
    (is_running_by l.network) setting state l.fn.jobs l.jobs
