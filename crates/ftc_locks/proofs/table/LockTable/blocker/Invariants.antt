-- the lowest age so far, and whose it is
use Rattle.std.proofs.Common.{◌≡◌, ◌<◌, ◌≤◌, ℕ, true, None, Some}
use Rattle.ftc_locks.specs.Locks.{conflicts, age_of}
use Rattle.ftc_locks.proofs.table.LockTable.blocker.Given as goal

abbrev pub invariant-loop-other : goal.invariant-loop-other
invariant-loop-other l = record {
  most : l.lowest ≤ l.age;
  lowest : (k : ℕ) → k < l.other → conflicts l.self l.worker l.partition l.change k ≡ true → l.lowest ≤ age_of l.self k;
  none : l.holder ≡ None → l.lowest ≡ l.age;
  age : (h : ℕ) → l.holder ≡ Some h → age_of l.self h ≡ l.lowest;
  older : (h : ℕ) → l.holder ≡ Some h → l.lowest < l.age;
  in_the_way : (h : ℕ) → l.holder ≡ Some h → conflicts l.self l.worker l.partition l.change h ≡ true;
}
