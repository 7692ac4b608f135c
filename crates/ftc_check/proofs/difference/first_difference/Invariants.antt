-- the texts are the same so far
use Rattle.std.proofs.Common.{◌≡◌, take}
use Rattle.ftc_check.proofs.difference.first_difference.Given as goal

abbrev pub invariant-loop-place : goal.invariant-loop-place
invariant-loop-place l = take l.place l.one ≡ take l.place l.other
