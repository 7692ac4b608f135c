use Rattle.std.proofs.Common.{arith}
use Rattle.ftc_message.proofs.Partitions.{count_small, all_counted}
use Rattle.ftc_message.proofs.part_bytes.marked.Goals as goal

pub overflow_add-count : goal.overflow_add-count
overflow_add-count c = omega (
  arith,
  count_small c.args.marks.now c.loop-partition.partition c.loop-partition.count c.loop-partition.invariant,
  c.end-partition-end.ensures.bounds.size,
)

pub returns-clause-count : goal.returns-clause-count
returns-clause-count c =
    all_counted c.args.marks.now c.end-partition-end.result c.loop-partition.partition c.loop-partition.count
    c.end-partition-end.ensures.same (omega (arith, c.loop-partition-test.false)) c.loop-partition.invariant
