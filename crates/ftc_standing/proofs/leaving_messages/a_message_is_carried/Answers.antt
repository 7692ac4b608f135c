use Rattle.std.proofs.Common.{List, subst}
use Rattle.ftc_standing.specs.Stand.{HeldItem, IsServerOf}
use Rattle.ftc_standing.proofs.Firm.{firm}
use Rattle.ftc_standing.proofs.WholeServers.{carries}
use Rattle.ftc_standing.proofs.leaving_messages.a_message_is_carried.Goals as goal

pub returns : goal.returns
returns c setting state origin contents before item after run legal held origin_is is =
    carries setting state (firm c.every_state_tied.ensures c.needs_of_packets.ensures c.withheld_packets.ensures setting
    state run)
    contents.head contents.later contents.known before item after contents.withheld contents.forwarded origin legal
    origin_is
    (subst (λ (items : List HeldItem). IsServerOf setting state 0 contents.head contents.later contents.known items
    contents.withheld
    contents.forwarded) held is)
