-- the groups before this one are got
use Rattle.std.proofs.Common.{◌≡◌, ℕ, ◌<◌, ◌≤◌, length}
use Rattle.ftc_base.specs.declared.limits.TheConstants.{MOST_SERVERS}
use Rattle.ftc_vector.specs.Vector.{by_partition}
use Rattle.ftc_vector.specs.Commits.{vector_of}
use Rattle.ftc_machine.specs.RecoveryEffect.{got_vector}
use Rattle.ftc_machine.proofs.state.MachineState.list_got.Given as goal

abbrev pub invariant-loop-number : goal.invariant-loop-number
invariant-loop-number l = record {
  size : length l.list ≡ MOST_SERVERS;
  got : (group : ℕ) → group < l.number →
      vector_of l.list group ≡ got_vector l.self l.server l.previous l.following group;
  left : (group : ℕ) → l.number ≤ group → group < MOST_SERVERS → vector_of l.list group ≡ by_partition (λ _. 0);
}
