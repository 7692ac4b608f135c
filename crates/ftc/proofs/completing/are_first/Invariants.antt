-- the packets are the same so far
use Rattle.std.proofs.Common.{◌≡◌, take}
use Rattle.ftc.proofs.completing.are_first.Given as goal

abbrev pub invariant-loop-place : goal.invariant-loop-place
invariant-loop-place l = take l.place l.put ≡ take l.place l.released
