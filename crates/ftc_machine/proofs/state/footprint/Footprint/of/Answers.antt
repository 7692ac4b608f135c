use Rattle.std.proofs.Common.{map, sym, ap, subst, ◌∙◌, arith}
use Rattle.std.specs.List.{AllByRecursion}
use Rattle.ftc_base.proofs.EachOf.{all_push}
use Rattle.ftc_machine.specs.declared.state.footprint.Touched.{Touched}
use Rattle.ftc_machine.specs.FootprintMaking.{IsTouched}
use Rattle.ftc_machine.proofs.MadeFootprints.{partitions_more}
use Rattle.ftc_machine.proofs.state.footprint.Footprint.of.Goals as goal

pub loop-answer-preserved : goal.loop-answer-preserved
loop-answer-preserved c = record {
  touched = ap (map (λ (each : Touched). each.partition)) c.push.ensures.items
      ∙ partitions_more c.args.partitions c.loop-answer.touched.items c.of.result c.as_slice-answer-items.result.now
      c.loop-answer.answer-index c.answer-item.result c.loop-answer-test.true (sym c.answer-item.is)
      c.of.ensures.partition c.loop-answer.invariant.touched;
  each = subst (AllByRecursion (IsTouched c.args.partitions c.args.writes.items c.args.vector.now))
      (sym c.push.ensures.items)
      (all_push (IsTouched c.args.partitions c.args.writes.items c.args.vector.now) c.loop-answer.touched.items
      c.of.result c.loop-answer.invariant.each
      (subst (λ writes. IsTouched c.args.partitions writes c.args.vector.now c.of.result) c.as_slice.ensures.value
      c.of.ensures.same));
  count = omega (arith, c.push.ensures.len);
}
