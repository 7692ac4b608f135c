use Rattle.std.proofs.Common.{◌<◌, ◌∙◌, length, sym, arith}
use Rattle.ftc_replica.proofs.Left.{left_one_more, left_no_more}
use Rattle.ftc_replica.proofs.dropping.copy_left.Goals.{then-not-is_dropped+in_ok-push_back, else-not-is_dropped}
use Rattle.ftc_replica.proofs.dropping.copy_left.Goals as goal

pub loop-place-preserved : goal.loop-place-preserved
loop-place-preserved c =
    let items = c.args.logs.now.items in
    let place = c.loop-place.place in
    let log = c.index-log.result.now in
    let within : place < length items =
    omega (arith, c.loop-place-test.true, c.len-place-end.ensures, c.args.logs.now.ok.0) in
    elim c.if-not-is_dropped.branch [
      | then-not-is_dropped+in_ok-push_back w ↦
          rw (w.copies-is, w.in_ok-push_back.ensures.items, w.copy.ensures)
          (left_one_more c.args.pruned.now items place log c.loop-place.copies.items within c.index-log.ensures
          (sym c.is_dropped.ensures ∙ w.if-not-is_dropped.true)
          c.loop-place.invariant)
      | else-not-is_dropped w ↦
          rw w.copies-is (left_no_more c.args.pruned.now items place log c.loop-place.copies.items within
          c.index-log.ensures (sym c.is_dropped.ensures ∙ w.if-not-is_dropped.false) c.loop-place.invariant)
    ]
