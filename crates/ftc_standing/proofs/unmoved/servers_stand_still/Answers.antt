use Rattle.ftc_standing.proofs.Firm.{firm}
use Rattle.ftc_standing.proofs.WholeServers.{stands_still}
use Rattle.ftc_standing.proofs.unmoved.servers_stand_still.Goals as goal

pub returns : goal.returns
returns c setting state event server contents run legal beside is =
    stands_still setting state
    (firm c.every_state_tied.ensures c.needs_of_packets.ensures c.withheld_packets.ensures setting state run)
    server contents.head contents.later contents.known contents.held contents.withheld contents.forwarded is event legal
    beside
