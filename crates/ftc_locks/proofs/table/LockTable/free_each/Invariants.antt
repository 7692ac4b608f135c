-- the workers of the set so far hold nothing, and the others hold what they held; whoever holds something is busy
use Rattle.std.proofs.Common.{◌≡◌, ◌<◌, ◌≤◌, ℕ, true, false, length, get_or}
use Rattle.ftc_base.specs.Sets.{has}
use Rattle.ftc_base.specs.declared.limits.TheConstants.{MOST_SLOTS}
use Rattle.ftc_locks.proofs.table.LockTable.free_each.Given as goal

abbrev pub invariant-loop-worker : goal.invariant-loop-worker
invariant-loop-worker l = record {
  held_size : length l.self-inside.held ≡ MOST_SLOTS;
  exclusive_size : length l.self-inside.exclusive ≡ MOST_SLOTS;
  ages : l.self-inside.ages ≡ l.initial.self-inside.ages;
  partitions : l.self-inside.partitions ≡ l.initial.self-inside.partitions;
  freed : (k p : ℕ) → k < l.worker → has l.workers k ≡ true → has (get_or l.self-inside.held k 0) p ≡ false;
  freed_exclusive : (k p : ℕ) → k < l.worker → has l.workers k ≡ true →
      has (get_or l.self-inside.exclusive k 0) p ≡ false;
  stays : (k : ℕ) → has l.workers k ≡ false → get_or l.self-inside.held k 0 ≡ get_or l.initial.self-inside.held k 0;
  stays_exclusive : (k : ℕ) → has l.workers k ≡ false →
      get_or l.self-inside.exclusive k 0 ≡ get_or l.initial.self-inside.exclusive k 0;
  rest : (k : ℕ) → l.worker ≤ k → get_or l.self-inside.held k 0 ≡ get_or l.initial.self-inside.held k 0;
  rest_exclusive : (k : ℕ) → l.worker ≤ k →
      get_or l.self-inside.exclusive k 0 ≡ get_or l.initial.self-inside.exclusive k 0;
  busy : (k p : ℕ) → has (get_or l.self-inside.held k 0) p ≡ true → has l.self-inside.busy k ≡ true;
}
