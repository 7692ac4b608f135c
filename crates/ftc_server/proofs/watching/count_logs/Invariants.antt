-- the logs so far and those of the messages that are left are all
use Rattle.std.proofs.Common.{◌≡◌, ◌+◌, length}
use Rattle.std.specs.VecDeque.Iter.{deque_iter_rest}
use Rattle.ftc_server.specs.Waiting.{logs_of_all}
use Rattle.ftc_server.proofs.watching.count_logs.Given as goal

abbrev pub invariant-loop-found : goal.invariant-loop-found
invariant-loop-found l =
    l.count + length (logs_of_all (deque_iter_rest l.found-iterator)) ≡ length (logs_of_all l.held.items)
