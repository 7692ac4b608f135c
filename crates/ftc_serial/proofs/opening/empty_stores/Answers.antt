use Rattle.std.proofs.Common.{arith}
use Rattle.ftc_serial.proofs.Places.{content_push}
use Rattle.ftc_serial.proofs.opening.empty_stores.Goals as goal

pub loop-preserved : goal.loop-preserved
loop-preserved c = record {
  count = omega (arith, c.in_ok-push.ensures.len, c.loop.invariant.count);
  empty = λ server. rw c.in_ok-push.ensures.items
      (content_push c.loop.stores.items c.new.result server c.new.ensures.empty c.loop.invariant.empty);
}
