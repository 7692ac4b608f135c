-- what is left belongs behind what was added, and is counted
use Rattle.std.proofs.Common.{◌≡◌, ◌++◌, drop}
use Rattle.ftc_message.specs.Spelling.{marked, marks_from, not_zero}
use Rattle.ftc_message.proofs.commits_bytes.append_numbers.Given as goal

abbrev pub invariant-loop-partition : goal.invariant-loop-partition
invariant-loop-partition l = record {
  told : l.out ++ marks_from l.partition (drop l.partition (not_zero l.vector)) ≡ l.fn.out
      ++ marks_from 0 (not_zero l.vector);
  left_is : l.left ≡ marked (drop l.partition (not_zero l.vector));
}
