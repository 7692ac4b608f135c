-- the workers so far that hold the partition are in the set, and no other worker is
use Rattle.std.proofs.Common.{◌≡◌, ◌<◌, ◌≤◌, ℕ, false, get_or}
use Rattle.ftc_base.specs.Sets.{has}
use Rattle.ftc_locks.proofs.table.LockTable.holders.Given as goal

abbrev pub invariant-loop-worker : goal.invariant-loop-worker
invariant-loop-worker l = record {
  below : (k : ℕ) → k < l.worker → has l.holders k ≡ has (get_or l.self-inside.held k 0) l.partition;
  rest : (k : ℕ) → l.worker ≤ k → has l.holders k ≡ false;
}
