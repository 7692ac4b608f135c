-- the logs so far that are left are copied
use Rattle.std.proofs.Common.{◌≡◌, take}
use Rattle.ftc_replica.specs.Kept.{left}
use Rattle.ftc_replica.proofs.dropping.copy_left.Given as goal

abbrev pub invariant-loop-place : goal.invariant-loop-place
invariant-loop-place l = l.copies.items ≡ left l.pruned (take l.place l.logs.items)
