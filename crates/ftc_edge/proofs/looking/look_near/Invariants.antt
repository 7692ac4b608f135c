-- the packets stay, and those so far aren't due
use Rattle.std.proofs.Common.{◌≡◌, ◌≤◌, ◌-◌}
use Rattle.std.specs.VecDeque.{deque_len, deque_capacity}
use Rattle.ftc_edge.specs.Known.{AreNotDue}
use Rattle.ftc_edge.proofs.looking.look_near.Given as goal

abbrev pub invariant-loop-place : goal.invariant-loop-place
invariant-loop-place l = record {
  items : l.held.items ≡ l.initial.held.items;
  size : deque_len l.held ≡ deque_len l.initial.held;
  capacity : deque_capacity l.held ≡ deque_capacity l.initial.held;
  within : l.place ≤ l.to;
  not_due : AreNotDue l.commits l.held.items 0 l.place;
}

abbrev pub decreases-loop-place : goal.decreases-loop-place
decreases-loop-place l = l.to - l.place
