-- the numbers below the partition are the greater ones, and the others are as they were
use Rattle.std.proofs.Common.{◌≡◌, ◌<◌, ◌≤◌, ℕ, length, get_or, max}
use Rattle.ftc_base.specs.declared.limits.TheConstants.{MOST_PARTITIONS}
use Rattle.ftc_vector.proofs.vector.merge.Given as goal

abbrev pub invariant-loop-partition : goal.invariant-loop-partition
invariant-loop-partition l = record {
  size : length l.vector-inside.numbers ≡ MOST_PARTITIONS;
  other_size : length l.other-inside.numbers ≡ MOST_PARTITIONS;
  below : (k : ℕ) → k < l.partition →
      get_or l.vector-inside.numbers k 0
      ≡ max (get_or l.initial.vector-inside.numbers k 0) (get_or l.other-inside.numbers k 0);
  rest : (k : ℕ) → l.partition ≤ k → get_or l.vector-inside.numbers k 0 ≡ get_or l.initial.vector-inside.numbers k 0;
}
