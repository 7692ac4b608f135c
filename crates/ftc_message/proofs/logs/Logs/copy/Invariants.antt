-- the logs so far are copied
use Rattle.std.proofs.Common.{◌≡◌, take}
use Rattle.ftc_message.proofs.logs.Logs.copy.Given as goal

abbrev pub invariant-loop-log : goal.invariant-loop-log
invariant-loop-log l = l.list.items ≡ take l.log-index l.log-items
