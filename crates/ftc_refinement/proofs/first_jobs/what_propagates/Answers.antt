use Rattle.ftc_refinement.proofs.Propagating.{propagates_by, may_propagate}
use Rattle.ftc_refinement.proofs.first_jobs.what_propagates.Goals as goal

pub returns : goal.returns
returns c setting state origin slots queues run none are =
    let order = c.order_of_a_state.ensures setting state run in
    let some = run.right.ring.some in (
      (λ legal. propagates_by setting state slots queues some order are origin legal.0),
      (λ is. (may_propagate setting state slots queues some order are origin is, λ other. none)),
    )
