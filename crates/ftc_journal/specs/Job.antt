-- The job that an event does.
use Rattle.std.specs.Prelude.{Option, Some, None}
use Rattle.ftc_journal.specs.declared.event.Event.{Event}
use Rattle.ftc_journal.specs.declared.event.Event.TheVariants as event
use Rattle.ftc_journal.specs.declared.job.Job.{Job}
use Rattle.ftc_journal.specs.declared.job.Job.TheVariants as job

-- a slot and a list of undone visits are left out, and a release is no job
abbrev pub job_of : Event → Option Job
job_of (event.Enter packet) = Some (job.Enter packet)
job_of (event.Take link origin) = Some (job.Take link origin)
job_of (event.Apply server origin group packet) = Some (job.Apply server origin group packet)
job_of (event.Visit server packet worker) = Some (job.Visit server packet)
job_of (event.Pass server origin) = Some (job.Pass server origin)
job_of (event.Lose server origin) = Some (job.Lose server origin)
job_of (event.Carry origin) = Some (job.Carry origin)
job_of (event.Crash server) = Some (job.Crash server)
job_of (event.Recover server undone) = Some (job.Recover server)
job_of (event.Pull link) = Some (job.Pull link)
job_of (event.Propagate origin) = Some (job.Propagate origin)
job_of (event.Release packet) = None
