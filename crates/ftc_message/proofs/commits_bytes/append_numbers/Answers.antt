use Rattle.std.proofs.Common.{◌<◌, length, ◌++◌, arith}
use Rattle.ftc_message.specs.Spelling.{marks_from, not_zero}
use Rattle.ftc_message.proofs.CommitLaws.{zero_passed, number_added, numbers_all, zero_left, number_left, numbers_done}
use Rattle.ftc_message.proofs.commits_bytes.append_numbers.Goals as goal
use Rattle.ftc_message.proofs.commits_bytes.append_numbers.Goals.{then-number-ne0+in_ok-append_entry, else-number-ne0}

pub loop-partition-preserved : goal.loop-partition-preserved
loop-partition-preserved c =
    let vector = c.args.vector.now in
    let p = c.loop-partition.partition in
    let left = c.loop-partition.left in
    let whole = c.args.out.now ++ marks_from 0 (not_zero vector) in
    let within : p < length vector = omega (arith, c.at.ensures.bounds.size, c.loop-partition-test.true) in
    elim c.if-number-ne0.branch [
      | then-number-ne0+in_ok-append_entry w ↦
          rw (w.out-is, w.left-is) (record {
            told = number_added vector p c.loop-partition.out w.append_entry.new.out whole within
                (λ is. omega (arith, is, w.if-number-ne0.true, c.at-number.ensures.same))
                (rw (← c.at-number.ensures.same) w.in_ok-append_entry.ensures) c.loop-partition.invariant.told;
            left_is = number_left vector p left within
                (λ is. omega (
                  arith,
                  is,
                  w.if-number-ne0.true,
                  c.at-number.ensures.same,
                )) c.loop-partition.invariant.left_is;
          })
      | else-number-ne0 w ↦
          rw (w.out-is, w.left-is) (record {
            told = zero_passed vector p c.loop-partition.out whole within
                (omega (arith, w.if-number-ne0.false, c.at-number.ensures.same)) c.loop-partition.invariant.told;
            left_is = zero_left vector p left within
                (omega (arith, w.if-number-ne0.false, c.at-number.ensures.same)) c.loop-partition.invariant.left_is;
          })
    ]

pub returns-then-left-eq0 : goal.returns-then-left-eq0
returns-then-left-eq0 c =
    numbers_done c.args.vector.now c.loop-partition.partition c.loop-partition.left c.loop-partition.out
    (c.args.out.now ++ marks_from 0 (not_zero c.args.vector.now)) c.if-left-eq0.true c.loop-partition.invariant.left_is
    c.loop-partition.invariant.told

pub returns : goal.returns
returns c =
    let vector = c.args.vector.now in
    numbers_all vector c.loop-partition.partition c.loop-partition.out (c.args.out.now
    ++ marks_from 0 (not_zero vector))
    (omega (arith, c.at.ensures.bounds.size, c.loop-partition-test.false)) c.loop-partition.invariant.told
