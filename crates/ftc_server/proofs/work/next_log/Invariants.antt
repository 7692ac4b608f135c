-- the next log among all is the next one among those that are left
use Rattle.std.proofs.Common.{◌≡◌, None, drop}
use Rattle.ftc_server.specs.Work.{next_log}
use Rattle.ftc_server.proofs.work.next_log.Given as goal

abbrev pub invariant-loop-log : goal.invariant-loop-log
invariant-loop-log l = next_log l.replicas l.waiting (drop l.log-index l.logs) ≡ next_log l.replicas None l.logs
