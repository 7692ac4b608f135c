use Rattle.std.proofs.Common.{arith}
use Rattle.ftc_machine.proofs.OpeningState.{set_push}
use Rattle.ftc_machine.proofs.state.opening.empty_sets.Goals as goal

pub loop-preserved : goal.loop-preserved
loop-preserved c = record {
  count = omega (arith, c.in_ok-push.ensures.len, c.loop.invariant.count);
  empty = λ server. rw c.in_ok-push.ensures.items
      (set_push c.loop.sets.items c.new.result c.new.ensures c.loop.invariant.empty server);
}
