-- the numbers so far are counted
use Rattle.std.proofs.Common.{◌≡◌, ◌+◌, drop}
use Rattle.ftc_message.specs.Spelling.{marked, not_zero}
use Rattle.ftc_message.proofs.commits_bytes.count_not_zero.Given as goal

abbrev pub invariant-loop-partition : goal.invariant-loop-partition
invariant-loop-partition l = l.count + marked (drop l.partition (not_zero l.vector)) ≡ marked (not_zero l.vector)
