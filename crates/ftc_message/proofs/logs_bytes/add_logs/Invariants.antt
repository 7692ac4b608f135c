-- the logs so far are added
use Rattle.std.proofs.Common.{◌≡◌, ◌++◌, length, take}
use Rattle.std.specs.List.{flat_map}
use Rattle.ftc_message.specs.Numbers.{number_bytes}
use Rattle.ftc_message.specs.Spelling.{log_bytes}
use Rattle.ftc_message.proofs.logs_bytes.add_logs.Given as goal

abbrev pub invariant-loop-log : goal.invariant-loop-log
invariant-loop-log l = l.out ≡ l.fn.out
    ++ (number_bytes 4 (length l.log-items) ++ flat_map log_bytes (take l.log-index l.log-items))
