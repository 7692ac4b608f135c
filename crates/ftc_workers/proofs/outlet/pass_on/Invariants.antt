-- what was taken out was sent
use Rattle.std.proofs.Common.{◌≡◌, ◌≤◌, ◌-◌, length}
use Rattle.ftc_workers.specs.Given.{given_of}
use Rattle.ftc_workers.proofs.outlet.pass_on.Given as goal

abbrev pub invariant-loop-item : goal.invariant-loop-item
invariant-loop-item l = record {
  sent : l.sender.items ≡ l.chain.drained;
  room : length l.chain.packets ≤ l.sender.room;
  packets : l.chain.packets ≡ l.fn.chain.packets;
  given : given_of l.chain ≡ given_of l.fn.chain;
  journal : l.chain.journal ≡ l.fn.chain.journal;
}

abbrev pub decreases-loop-item : goal.decreases-loop-item
decreases-loop-item l = length l.fn.chain.packets - length l.chain.drained
