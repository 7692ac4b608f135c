use Rattle.std.proofs.Common.{take}
use Rattle.ftc_protocol.specs.Setting.{Setting}
use Rattle.ftc_protocol.specs.State.{ChainState}
use Rattle.ftc_jobs.specs.All.{is_running_by, HasJobsOf, IsOfLogs}
use Rattle.ftc_jobs.specs.Rest.{IsResting}
use Rattle.ftc_jobs.proofs.all.add_applies.Given as goal

-- those of the logs so far are there
abbrev pub invariant-loop-log : goal.invariant-loop-log
invariant-loop-log l =
    (setting : Setting) (state : ChainState) → IsResting setting state l.network →
    HasJobsOf (IsOfLogs l.server l.origin (take l.log-index l.logs))
    (is_running_by l.network) setting state l.fn.jobs l.jobs
