-- the waits so far and those of the messages that are left are all, and there is room for these
use Rattle.std.proofs.Common.{◌≡◌, ◌≤◌, ◌++◌, length}
use Rattle.std.specs.VecDeque.Iter.{deque_iter_rest}
use Rattle.ftc_server.specs.Waiting.{logs_of_all, waits_of_all}
use Rattle.ftc_server.proofs.watching.watch_all.Given as goal

abbrev pub invariant-loop-found : goal.invariant-loop-found
invariant-loop-found l = record {
  waits : l.waits.items ++ waits_of_all l.replicas (deque_iter_rest l.found-iterator)
      ≡ l.fn.waits.items ++ waits_of_all l.replicas l.held.items;
  room : length (logs_of_all (deque_iter_rest l.found-iterator)) ≤ l.waits.spare;
}
