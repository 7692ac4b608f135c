use Rattle.std.proofs.Common.{List, subst}
use Rattle.ftc_standing.specs.View.{leaving}
use Rattle.ftc_standing.specs.Stand.{HeldItem, IsServerOf}
use Rattle.ftc_standing.proofs.Firm.{firm}
use Rattle.ftc_standing.proofs.LeavingEvents.{may_leave, next_leaving, leaving_beside}
use Rattle.ftc_standing.proofs.WholeServers.{leaves_on, leaves_empty, leaves_packet}
use Rattle.ftc_standing.proofs.leaving_messages.a_message_leaves.Goals as goal

pub returns-clause-on : goal.returns-clause-on
returns-clause-on c setting state lost server origin contents before item after run legal held origin_is isnt is =
    let may = may_leave setting state lost server origin legal in
    leaves_on setting state
    (firm c.every_state_tied.ensures c.needs_of_packets.ensures c.withheld_packets.ensures setting state run)
    contents.head contents.later contents.known before item after contents.withheld contents.forwarded server origin
    lost (leaving lost server origin) legal (next_leaving setting state lost server origin)
    (leaving_beside setting state lost server origin server) may.0 may.1 origin_is
    (subst (λ (items : List HeldItem). IsServerOf setting state server contents.head contents.later contents.known items
    contents.withheld
    contents.forwarded) held is) isnt

pub returns-clause-empty : goal.returns-clause-empty
returns-clause-empty c setting state lost server origin contents before item after run legal held origin_is last none
    is =
    let may = may_leave setting state lost server origin legal in
    leaves_empty setting state
    (firm c.every_state_tied.ensures c.needs_of_packets.ensures c.withheld_packets.ensures setting state run)
    contents.head contents.later contents.known before item after contents.withheld contents.forwarded server origin
    lost (leaving lost server origin) legal (next_leaving setting state lost server origin)
    (leaving_beside setting state lost server origin server) may.0 may.1 origin_is
    (subst (λ (items : List HeldItem). IsServerOf setting state server contents.head contents.later contents.known items
    contents.withheld
    contents.forwarded) held is) last none

pub returns-clause-packet : goal.returns-clause-packet
returns-clause-packet c setting state lost server origin contents before item after bytes run legal held origin_is last
    has is =
    let may = may_leave setting state lost server origin legal in
    leaves_packet setting state
    (firm c.every_state_tied.ensures c.needs_of_packets.ensures c.withheld_packets.ensures setting state run)
    contents.head contents.later contents.known before item after contents.withheld contents.forwarded server origin
    lost (leaving lost server origin) legal (next_leaving setting state lost server origin)
    (leaving_beside setting state lost server origin server) may.0 may.1 origin_is
    (subst (λ (items : List HeldItem). IsServerOf setting state server contents.head contents.later contents.known items
    contents.withheld
    contents.forwarded) held is) last bytes has
