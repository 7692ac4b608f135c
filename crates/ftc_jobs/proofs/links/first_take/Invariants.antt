use Rattle.std.proofs.Common.{◌<◌, ℕ}
use Rattle.ftc_journal.specs.declared.job.Job.TheVariants as job
use Rattle.ftc_protocol.specs.Setting.{Setting}
use Rattle.ftc_protocol.specs.State.{ChainState}
use Rattle.ftc_protocol.specs.Jobs.{IsLegalJob}
use Rattle.ftc_jobs.specs.Rest.{IsResting}
use Rattle.ftc_jobs.proofs.links.first_take.Given as goal

-- nothing may be taken from a link below
abbrev pub invariant-loop-number : goal.invariant-loop-number
invariant-loop-number l =
    (setting : Setting) (state : ChainState) → IsResting setting state l.network → (link origin : ℕ) →
    link < l.number → IsLegalJob setting state (job.Take link origin) → ⊥
