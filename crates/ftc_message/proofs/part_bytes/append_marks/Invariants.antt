-- what is left belongs behind what was added
use Rattle.std.proofs.Common.{◌≡◌, ◌++◌, drop}
use Rattle.ftc_message.specs.Spelling.{marks_bytes, marks_from}
use Rattle.ftc_message.proofs.part_bytes.append_marks.Given as goal

abbrev pub invariant-loop-partition : goal.invariant-loop-partition
invariant-loop-partition l =
    l.out ++ marks_from l.partition (drop l.partition l.marks) ≡ l.fn.out ++ marks_bytes l.marks
