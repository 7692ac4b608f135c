-- the vector has reached the partitions so far, and those that change exactly
use Rattle.std.proofs.Common.{◌≡◌, ◌<◌, ◌≤◌, ℕ, Some, true}
use Rattle.ftc_base.specs.Sets.{has}
use Rattle.ftc_vector.specs.Vector.{mark_at, number_at}
use Rattle.ftc_vector.proofs.order.ready.Given as goal

abbrev pub invariant-loop-partition : goal.invariant-loop-partition
invariant-loop-partition l = record {
  reached : (k carried : ℕ) → k < l.partition → mark_at l.before k ≡ Some carried → carried ≤ number_at l.vector k;
  equal : (k carried : ℕ) → k < l.partition → mark_at l.before k ≡ Some carried → has l.changed k ≡ true →
      number_at l.vector k ≡ carried;
}
