use Rattle.std.proofs.Common.{◌<◌, ℕ}
use Rattle.ftc_journal.specs.declared.job.Job.{Job}
use Rattle.ftc_protocol.specs.Setting.{Setting}
use Rattle.ftc_protocol.specs.State.{ChainState}
use Rattle.ftc_jobs.specs.All.{is_running_by, HasJobsOf, IsOfServer}
use Rattle.ftc_jobs.specs.Rest.{IsAtRest}
use Rattle.ftc_jobs.proofs.all.add_servers.Given as goal

-- those of the servers below are there
abbrev pub invariant-loop-number : goal.invariant-loop-number
invariant-loop-number l =
    (setting : Setting) (state : ChainState) (packets : ℕ) → IsAtRest setting state l.script packets l.network →
    HasJobsOf (λ (job : Job). (server : ℕ) × (server < l.number) × IsOfServer server job)
    (is_running_by l.network) setting state l.fn.jobs l.jobs
