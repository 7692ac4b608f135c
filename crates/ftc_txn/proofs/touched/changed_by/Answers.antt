use Rattle.std.proofs.Common.{sym, ◌∙◌}
use Rattle.ftc_txn.proofs.TouchedLists.{changed_none, changed_more}
use Rattle.ftc_txn.proofs.touched.changed_by.Goals as goal

pub loop-write-init : goal.loop-write-init
loop-write-init c = λ p. c.new-changed.ensures p ∙ sym (changed_none c.args.partitions p)

pub loop-write-preserved : goal.loop-write-preserved
loop-write-preserved c = λ p.
    rw (
      changed_more c.args.partitions c.as_slice-write-items.result.now c.loop-write.write-index c.write-item.result p
          c.loop-write-test.true (sym c.write-item.is),
      ← c.loop-write.invariant p,
      ← c.partition_of.ensures.same,
    ) (c.with-changed.ensures p)
