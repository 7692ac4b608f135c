-- those so far that are left are passed, and are no more than are to be passed
use Rattle.std.proofs.Common.{◌≡◌, ◌≤◌, length, take}
use Rattle.ftc_replica.specs.Kept.{left}
use Rattle.ftc_replica.proofs.dropping.place_of.Given as goal

abbrev pub invariant-loop-place : goal.invariant-loop-place
invariant-loop-place l = record {
  passed : l.passed ≡ length (left l.pruned (take l.place l.logs.items));
  few : l.passed ≤ l.count;
}
