-- the visits that are still to be looked at, and behind them those so far that stay
use Rattle.std.proofs.Common.{◌≡◌, ◌≤◌, length}
use Rattle.std.specs.VecDeque.{deque_capacity}
use Rattle.ftc_visits.proofs.Passing.{HasPassed}
use Rattle.ftc_visits.proofs.undoing.drop_named.Given as goal

abbrev pub invariant-loop-place : goal.invariant-loop-place
invariant-loop-place l = record {
  passed : HasPassed l.initial.visits.items l.names l.place l.next l.visits.items;
  few : l.next ≤ length l.names;
  capacity : deque_capacity l.visits ≡ deque_capacity l.initial.visits;
}
