-- the partitions so far are counted
use Rattle.std.proofs.Common.{◌≡◌, ◌+◌, drop}
use Rattle.ftc_message.specs.Spelling.{marked}
use Rattle.ftc_message.proofs.part_bytes.marked.Given as goal

abbrev pub invariant-loop-partition : goal.invariant-loop-partition
invariant-loop-partition l = l.count + marked (drop l.partition l.marks) ≡ marked l.marks
