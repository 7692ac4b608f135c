-- the touched partitions so far have their numbers, and the others have none
use Rattle.std.proofs.Common.{◌≡◌, ◌<◌, ◌≤◌, ℕ, None, Some, length, if◌then◌else◌}
use Rattle.ftc_base.specs.Sets.{has}
use Rattle.ftc_base.specs.declared.limits.TheConstants.{MOST_PARTITIONS}
use Rattle.ftc_vector.specs.Vector.{mark_at, number_at}
use Rattle.ftc_vector.proofs.advance.numbers_at.Given as goal

abbrev pub invariant-loop-partition : goal.invariant-loop-partition
invariant-loop-partition l = record {
  size : length l.marks ≡ MOST_PARTITIONS;
  below : (k : ℕ) → k < l.partition →
      mark_at l.marks k ≡ (if has l.touched k then Some (number_at l.vector k) else None);
  rest : (k : ℕ) → l.partition ≤ k → k < MOST_PARTITIONS → mark_at l.marks k ≡ None;
}
