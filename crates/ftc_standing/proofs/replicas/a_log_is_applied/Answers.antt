use Rattle.ftc_standing.proofs.Firm.{firm}
use Rattle.ftc_standing.proofs.WholeServers.{applies}
use Rattle.ftc_standing.proofs.replicas.a_log_is_applied.Goals as goal

pub returns : goal.returns
returns c setting state server origin group packet log contents replica run legal up below log_of group_is origin_is
    there is =
    applies setting state
    (firm c.every_state_tied.ensures c.needs_of_packets.ensures c.withheld_packets.ensures setting state run)
    server origin group packet legal up below log log_of group_is origin_is contents.head contents.later contents.known
    contents.held contents.withheld contents.forwarded replica there is
