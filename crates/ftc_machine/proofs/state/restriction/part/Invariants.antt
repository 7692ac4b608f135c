-- the groups so far have their rows, and the others none
use Rattle.std.proofs.Common.{◌≡◌, ◌<◌, ◌≤◌, ℕ, length, if◌then◌else◌}
use Rattle.ftc_base.specs.Sets.{has}
use Rattle.ftc_base.specs.declared.limits.TheConstants.{MOST_SERVERS}
use Rattle.ftc_vector.specs.Vector.{by_partition, merged}
use Rattle.ftc_vector.specs.Commits.{vector_of}
use Rattle.ftc_machine.proofs.state.restriction.part.Given as goal

abbrev pub invariant-loop-number : goal.invariant-loop-number
invariant-loop-number l = record {
  size : length l.part ≡ MOST_SERVERS;
  below : (k : ℕ) → k < l.number →
      vector_of l.part k ≡ (if has l.groups k then merged (by_partition (λ _. 0)) (vector_of l.reach k)
      else by_partition (λ _. 0));
  rest : (k : ℕ) → l.number ≤ k → k < MOST_SERVERS → vector_of l.part k ≡ by_partition (λ _. 0);
}
