-- no worker so far holds the partition exclusively
use Rattle.std.proofs.Common.{◌≡◌, ◌<◌, ℕ, false, get_or}
use Rattle.ftc_base.specs.Sets.{has}
use Rattle.ftc_locks.proofs.table.LockTable.exclusive.Given as goal

abbrev pub invariant-loop-worker : goal.invariant-loop-worker
invariant-loop-worker l = (k : ℕ) → k < l.worker → has (get_or l.self-inside.exclusive k 0) l.partition ≡ false
