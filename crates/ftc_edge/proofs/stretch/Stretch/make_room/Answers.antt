use Rattle.std.proofs.Common.{arith, subst}
use Rattle.ftc_edge.specs.Known.{AreLacking}
use Rattle.ftc_edge.proofs.Looked.{lacking_before}
use Rattle.ftc_edge.proofs.stretch.Stretch.make_room.Goals as goal

pub loop-self-preserved : goal.loop-self-preserved
loop-self-preserved c = record {
  begin = c.loop-self.invariant.begin;
  end = c.loop-self.invariant.end;
  few = omega (arith, c.in_ok-push.ensures.len, c.loop-self-test.true, c.from.ensures, c.len.ensures);
  grown = omega (arith, c.in_ok-push.ensures.len, c.loop-self.invariant.grown);
  lacking = λ commits lacking. c.loop-self.invariant.lacking commits
      (lacking_before commits c.loop-self.self.least.items c.new.result
      (subst (AreLacking commits) c.in_ok-push.ensures.items lacking));
}
