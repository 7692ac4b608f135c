-- each set so far is empty
use Rattle.std.proofs.Common.{◌≡◌, ℕ, length}
use Rattle.ftc_machine.specs.Frontier.{frontier_at}
use Rattle.ftc_machine.specs.Represents.{frontiers_of}
use Rattle.ftc_machine.proofs.state.opening.empty_sets.Given as goal

abbrev pub invariant-loop : goal.invariant-loop
invariant-loop l = record {
  count : length l.sets.items ≡ l.counter;
  empty : (server group partition : ℕ) → frontier_at (frontiers_of l.sets.items server) group partition ≡ 0;
}
