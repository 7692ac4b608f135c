-- those so far that are left are counted
use Rattle.std.proofs.Common.{◌≡◌, ◌≤◌, length, take}
use Rattle.ftc_replica.specs.Kept.{left}
use Rattle.ftc_replica.proofs.dropping.count_left.Given as goal

abbrev pub invariant-loop-place : goal.invariant-loop-place
invariant-loop-place l = record {
  counted : l.count ≡ length (left l.pruned (take l.place l.logs.items));
  within : l.count ≤ l.place;
}
