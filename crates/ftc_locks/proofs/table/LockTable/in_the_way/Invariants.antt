-- the workers so far that are in the way are in the set, and no other worker is
use Rattle.std.proofs.Common.{◌≡◌, ◌<◌, ◌≤◌, ℕ, false}
use Rattle.ftc_base.specs.Sets.{has}
use Rattle.ftc_locks.specs.Locks.{conflicts}
use Rattle.ftc_locks.proofs.table.LockTable.in_the_way.Given as goal

abbrev pub invariant-loop-other : goal.invariant-loop-other
invariant-loop-other l = record {
  below : (k : ℕ) → k < l.other → has l.others k ≡ conflicts l.self l.worker l.partition l.change k;
  rest : (k : ℕ) → l.other ≤ k → has l.others k ≡ false;
}
