use Rattle.std.proofs.Common.{◌∙◌}
use Rattle.ftc_protocol.specs.Next.{next}
use Rattle.ftc_visits.proofs.Dropping.{all_last}
use Rattle.ftc_visits.proofs.Trace.{visits_kept, visit_kept}
use Rattle.ftc_visits.proofs.laws.made_visits_stay.Goals as goal

pub returns : goal.returns
returns c setting state event visits run legal keeps are = record {
  names = are.names ∙ visits_kept setting state event keeps;
  each = all_last setting.partitions state.trace (next setting state event).trace
      (λ group packet marks. c.logs_last.ensures.need setting state event group packet marks run legal) visits are.names
      (visit_kept setting state event keeps) are.each;
}
