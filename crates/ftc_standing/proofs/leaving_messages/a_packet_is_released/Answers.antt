use Rattle.std.proofs.Common.{List, subst}
use Rattle.ftc_edge.specs.declared.buffer.Withheld.{Withheld as WithheldPacket}
use Rattle.ftc_standing.specs.Stand.{IsServerOf}
use Rattle.ftc_standing.proofs.Firm.{firm}
use Rattle.ftc_standing.proofs.WholeServers.{releases}
use Rattle.ftc_standing.proofs.leaving_messages.a_packet_is_released.Goals as goal

pub returns : goal.returns
returns c setting state packet server contents before item after run legal last withheld packet_is is =
    releases setting state (firm c.every_state_tied.ensures c.needs_of_packets.ensures c.withheld_packets.ensures
    setting state run)
    server last packet legal contents.head contents.later contents.known contents.held before item after
    contents.forwarded
    packet_is
    (subst (λ (packets : List WithheldPacket). IsServerOf setting state server contents.head contents.later
    contents.known
    contents.held packets contents.forwarded) withheld is)
