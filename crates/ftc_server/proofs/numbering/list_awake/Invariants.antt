-- the numbers of the tickets so far
use Rattle.std.proofs.Common.{◌≡◌, take}
use Rattle.std.specs.VecDeque.{deque_capacity}
use Rattle.ftc_server.specs.Tickets.{awake_numbers}
use Rattle.ftc_server.proofs.numbering.list_awake.Given as goal

abbrev pub invariant-loop-place : goal.invariant-loop-place
invariant-loop-place l = record {
  items : l.numbers.items ≡ awake_numbers (take l.place l.tickets.items);
  capacity : deque_capacity l.numbers ≡ deque_capacity l.fn.numbers;
}
