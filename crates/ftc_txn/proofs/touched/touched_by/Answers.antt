use Rattle.std.proofs.Common.{sym, ◌∙◌}
use Rattle.ftc_txn.proofs.TouchedLists.{touched_none, touched_more}
use Rattle.ftc_txn.proofs.touched.touched_by.Goals as goal

pub loop-answer-init : goal.loop-answer-init
loop-answer-init c = λ p. c.new-touched.ensures p ∙ sym (touched_none c.args.partitions p)

pub loop-answer-preserved : goal.loop-answer-preserved
loop-answer-preserved c = λ p.
    rw (
      touched_more c.args.partitions c.as_slice-answer-items.result.now c.loop-answer.answer-index
          c.answer-item.result p c.loop-answer-test.true (sym c.answer-item.is),
      ← c.loop-answer.invariant p,
      ← c.partition_of.ensures.same,
    ) (c.with-touched.ensures p)
