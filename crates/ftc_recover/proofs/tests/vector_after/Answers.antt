use Rattle.std.proofs.Common.{ℕ, ◌≤◌, List, subst}
use Rattle.ftc_vector.specs.Vector.{number_at}
use Rattle.ftc_recover.proofs.Turns.{MayFollow, applied_here, push_here}
use Rattle.ftc_recover.proofs.tests.vector_after.Goals as goal

pub loop-log-preserved : goal.loop-log-preserved
loop-log-preserved c =
    let may : MayFollow 18446744073709551614 c.loop-log.copy.vector c.log-item.result = record {
      ready = c.ready.ensures.0 c.if-not-ready.false;
      bound = λ partition within.
          subst (λ (vector : List ℕ). number_at vector partition ≤ 18446744073709551614) c.vector-else-not-ready.ensures
          (c.may_rise.ensures c.if-not-may_rise.false partition within);
    } in
    record {
      copy = applied_here c.args.logs.now c.args.to.now c.loop-log.copy c.apply.new.self c.loop-log.log-index
          c.log-item.result c.loop-log-test.true c.log-item.is c.loop-log.invariant.copy c.in_ok-apply.ensures.applied;
      ready = push_here 18446744073709551614 c.args.logs.now c.args.to.now c.loop-log.copy c.loop-log.log-index
          c.log-item.result c.loop-log-test.true c.log-item.is c.loop-log.invariant.copy c.loop-log.invariant.ready may;
    }
