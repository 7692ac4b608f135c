-- The script's lines as jobs.
use Rattle.ftc_journal.specs.declared.job.Job.{Job}
use Rattle.ftc_journal.specs.declared.job.Job.TheVariants as job
use Rattle.ftc_script.specs.declared.line.ScriptLine.{ScriptLine}
use Rattle.ftc_script.specs.declared.line.ScriptLine.TheVariants.{Crash, Recover}

abbrev pub job_of_line : ScriptLine → Job
job_of_line (Crash at server) = job.Crash server
job_of_line (Recover at server) = job.Recover server
