-- the packets stay, and those that were looked at so far aren't due
use Rattle.std.proofs.Common.{◌-◌, ◌≡◌, ◌≤◌, vec_len}
use Rattle.std.specs.VecDeque.{deque_len, deque_capacity}
use Rattle.ftc_base.specs.declared.limits.TheConstants.{MOST_SERVERS}
use Rattle.ftc_edge.specs.Known.{AreDelayed, AreNotDue}
use Rattle.ftc_edge.proofs.looking.look_far.Given as goal

abbrev pub invariant-loop-stretch : goal.invariant-loop-stretch
invariant-loop-stretch l = record {
  items : l.held.items ≡ l.initial.held.items;
  size : deque_len l.held ≡ deque_len l.initial.held;
  capacity : deque_capacity l.held ≡ deque_capacity l.initial.held;
  begin : l.stretch.begin ≡ l.initial.stretch.begin;
  above : l.initial.stretch.end ≤ l.stretch.end;
  within : l.stretch.end ≤ l.to;
  len : vec_len l.stretch.least ≡ MOST_SERVERS;
  delayed : AreDelayed l.stretch.least.items l.held.items l.stretch.begin l.stretch.end;
  not_due : AreNotDue l.commits l.held.items l.stretch.begin l.stretch.end;
}

abbrev pub decreases-loop-stretch : goal.decreases-loop-stretch
decreases-loop-stretch l = l.to - l.stretch.end
