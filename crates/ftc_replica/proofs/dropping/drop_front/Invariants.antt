-- the logs that were dropped are covered
use Rattle.std.proofs.Common.{◌≡◌}
use Rattle.std.specs.VecDeque.{deque_len, deque_capacity}
use Rattle.ftc_replica.specs.Kept.{missing}
use Rattle.ftc_replica.proofs.dropping.drop_front.Given as goal

abbrev pub invariant-loop-log : goal.invariant-loop-log
invariant-loop-log l = record {
  left : missing l.commit l.logs.items ≡ missing l.commit l.initial.logs.items;
  capacity : deque_capacity l.logs ≡ deque_capacity l.initial.logs;
}

abbrev pub decreases-loop-log : goal.decreases-loop-log
decreases-loop-log l = deque_len l.logs
