-- the logs so far have their waits, and there is room for those of the others
use Rattle.std.proofs.Common.{◌≡◌, ◌≤◌, ◌+◌, ◌++◌, take}
use Rattle.std.specs.List.{flat_map}
use Rattle.ftc_server.specs.Waiting.{waits_of}
use Rattle.ftc_server.proofs.waiting.watch.Given as goal

abbrev pub invariant-loop-log : goal.invariant-loop-log
invariant-loop-log l = record {
  items : l.waits.items ≡ l.fn.waits.items ++ flat_map (waits_of l.replicas l.packet) (take l.log-index l.logs);
  spare : l.fn.waits.spare ≤ l.waits.spare + l.log-index;
}
