use Rattle.ftc_machine.proofs.LawfulStates.{lawful_by}
use Rattle.ftc_machine.proofs.laws.states_are_lawful.Goals as goal

pub returns : goal.returns
returns c =
    lawful_by c.every_moment.ensures c.order_of_a_state.ensures c.fronts_of_a_state.ensures c.needs_of_packets.ensures
    c.what_is_undone.ensures.closed
