use Rattle.std.proofs.Common.{◌++◌, arith}
use Rattle.ftc_message.specs.Spelling.{parts_bytes}
use Rattle.ftc_message.proofs.Partitions.{parts_all}
use Rattle.ftc_message.proofs.part_bytes.append_parts.Goals as goal

pub returns : goal.returns
returns c =
    parts_all c.args.before.now c.args.changed c.end-partition-end.result c.loop-partition.partition
    c.loop-partition.out
    (c.args.out.now ++ parts_bytes c.args.before.now c.args.changed) c.end-partition-end.ensures.same
    (omega (arith, c.loop-partition-test.false)) c.loop-partition.invariant
