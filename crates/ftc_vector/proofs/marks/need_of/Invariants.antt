-- the partitions so far have their needs, and the others have none
use Rattle.std.proofs.Common.{◌≡◌, ◌<◌, ◌≤◌, ℕ, None, length}
use Rattle.ftc_base.specs.Sets.{has}
use Rattle.ftc_base.specs.declared.limits.TheConstants.{MOST_PARTITIONS}
use Rattle.ftc_vector.specs.Vector.{mark_at, need_at}
use Rattle.ftc_vector.proofs.marks.need_of.Given as goal

abbrev pub invariant-loop-partition : goal.invariant-loop-partition
invariant-loop-partition l = record {
  size : length l.marks ≡ MOST_PARTITIONS;
  below : (k : ℕ) → k < l.partition → mark_at l.marks k ≡ need_at (mark_at l.before k) (has l.changed k);
  rest : (k : ℕ) → l.partition ≤ k → k < MOST_PARTITIONS → mark_at l.marks k ≡ None;
}
