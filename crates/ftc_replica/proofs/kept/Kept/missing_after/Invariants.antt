-- the missing ones of the logs so far that are left
use Rattle.std.proofs.Common.{◌≡◌, take}
use Rattle.ftc_replica.specs.Kept.{missing, left}
use Rattle.ftc_replica.proofs.kept.Kept.missing_after.Given as goal

abbrev pub invariant-loop-place : goal.invariant-loop-place
invariant-loop-place l = l.logs ≡ missing l.vector (left l.self-inside.pruned (take l.place l.self-inside.logs.items))
