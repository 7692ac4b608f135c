use Rattle.std.proofs.Common.{◌++◌, arith}
use Rattle.ftc_message.specs.Spelling.{marks_bytes}
use Rattle.ftc_message.proofs.Partitions.{marks_all}
use Rattle.ftc_message.proofs.part_bytes.append_marks.Goals as goal

pub returns : goal.returns
returns c =
    marks_all c.args.marks.now c.end-partition-end.result c.loop-partition.partition c.loop-partition.out
    (c.args.out.now ++ marks_bytes c.args.marks.now) c.end-partition-end.ensures.same
    (omega (arith, c.loop-partition-test.false)) c.loop-partition.invariant
