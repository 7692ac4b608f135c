use Rattle.ftc_packet.specs.declared.rewrite.End.TheVariants.{Destination}
use Rattle.ftc_packet.proofs.PacketRewrites.{IsFlow-with_end, flow_in-with_destination, others_stay}
use Rattle.ftc_packet.proofs.rewrite.set_destination.Goals as goal

pub returns-clause-flow : goal.returns-clause-flow
returns-clause-flow c = rw c.set_end.ensures.same (IsFlow-with_end _ Destination _ _ c.requires)

pub returns-clause-named : goal.returns-clause-named
returns-clause-named c = rw c.set_end.ensures.same (flow_in-with_destination _ _ _ c.requires)

pub returns-clause-others : goal.returns-clause-others
returns-clause-others c = rw c.set_end.ensures.same (others_stay _ Destination _ _)
