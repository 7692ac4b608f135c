use Rattle.std.proofs.Common.{◌<◌, length, arith}
use Rattle.ftc_message.specs.Spelling.{marked, not_zero}
use Rattle.ftc_message.proofs.CommitLaws.{zero_counted, number_counted, few_counted}
use Rattle.ftc_message.proofs.commits_bytes.count_not_zero.Goals as goal
use Rattle.ftc_message.proofs.commits_bytes.count_not_zero.Goals.{then-at-ne0, else-at-ne0}

pub overflow_add-count : goal.overflow_add-count
overflow_add-count c = omega (
  arith,
  few_counted c.args.vector.now c.loop-partition.partition c.loop-partition.count c.loop-partition.invariant,
  c.at.ensures.bounds.size,
)

pub loop-partition-preserved : goal.loop-partition-preserved
loop-partition-preserved c =
    let vector = c.args.vector.now in
    let within : c.loop-partition.partition < length vector =
    omega (arith, c.at.ensures.bounds.size, c.loop-partition-test.true) in
    elim c.if-at-ne0.branch [
      | then-at-ne0 w ↦
          rw w.count-is (number_counted vector c.loop-partition.partition c.loop-partition.count
          (marked (not_zero vector)) within
          (λ is. omega (arith, is, w.if-at-ne0.true, c.at-in-loop-partition.ensures.same)) c.loop-partition.invariant)
      | else-at-ne0 w ↦
          rw w.count-is (zero_counted vector c.loop-partition.partition c.loop-partition.count
          (marked (not_zero vector)) within
          (omega (arith, w.if-at-ne0.false, c.at-in-loop-partition.ensures.same)) c.loop-partition.invariant)
    ]

pub returns-clause-few : goal.returns-clause-few
returns-clause-few c =
    omega (
      arith,
      c.at.ensures.bounds.size,
      few_counted c.args.vector.now c.loop-partition.partition c.loop-partition.count c.loop-partition.invariant,
    )
