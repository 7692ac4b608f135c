use Rattle.std.proofs.Common.{◌<◌, ℕ}
use Rattle.ftc_journal.specs.declared.job.Job.TheVariants as job
use Rattle.ftc_protocol.specs.Setting.{Setting}
use Rattle.ftc_protocol.specs.State.{ChainState}
use Rattle.ftc_protocol.specs.Jobs.{IsLegalJob}
use Rattle.ftc_jobs.specs.Rest.{IsResting}
use Rattle.ftc_jobs.proofs.links.first_pull.Given as goal

-- no link below may be pulled
abbrev pub invariant-loop-number : goal.invariant-loop-number
invariant-loop-number l =
    (setting : Setting) (state : ChainState) → IsResting setting state l.network → (link : ℕ) → link < l.number →
    IsLegalJob setting state (job.Pull link) → ⊥
