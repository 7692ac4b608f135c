-- the changed numbers below the partition are raised, and the others are as they were
use Rattle.std.proofs.Common.{◌≡◌, ◌<◌, ◌≤◌, ◌+◌, ℕ, length, get_or, if◌then◌else◌}
use Rattle.ftc_base.specs.Sets.{has}
use Rattle.ftc_base.specs.declared.limits.TheConstants.{MOST_PARTITIONS}
use Rattle.ftc_vector.proofs.vector.Vector.raise.Given as goal

abbrev pub invariant-loop-partition : goal.invariant-loop-partition
invariant-loop-partition l = record {
  size : length l.self-inside.numbers ≡ MOST_PARTITIONS;
  below : (k : ℕ) → k < l.partition →
      get_or l.self-inside.numbers k 0 ≡ (if has l.changed k then get_or l.initial.self-inside.numbers k 0 + 1
      else get_or l.initial.self-inside.numbers k 0);
  rest : (k : ℕ) → l.partition ≤ k → get_or l.self-inside.numbers k 0 ≡ get_or l.initial.self-inside.numbers k 0;
}
