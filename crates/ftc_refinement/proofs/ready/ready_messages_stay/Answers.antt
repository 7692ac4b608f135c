use Rattle.ftc_ties.proofs.Serving.{steady}
use Rattle.ftc_refinement.proofs.ReadyStays.{ready_stays}
use Rattle.ftc_refinement.proofs.ready.ready_messages_stay.Goals as goal

pub returns : goal.returns
returns c setting state step server origin visited by_ring now_visited now_by_ring message after run legal unvisited
    there place
    ready is now = ready_stays setting state
    (steady c.every_state_tied.ensures setting state run) server origin visited by_ring
    message there place after now_visited now_by_ring now step legal unvisited is ready
