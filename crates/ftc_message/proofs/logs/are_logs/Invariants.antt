-- those so far hold what their type does
use Rattle.std.proofs.Common.{take}
use Rattle.std.specs.List.{AllByRecursion}
use Rattle.ftc_message.specs.Bounds.{IsLog}
use Rattle.ftc_message.proofs.logs.are_logs.Given as goal

abbrev pub invariant-loop-log : goal.invariant-loop-log
invariant-loop-log l = AllByRecursion IsLog (take l.log-index l.logs)
