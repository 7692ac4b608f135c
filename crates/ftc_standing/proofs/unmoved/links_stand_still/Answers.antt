use Rattle.ftc_standing.proofs.Firm.{firm}
use Rattle.ftc_standing.proofs.Lasting.{IsFirmState, link_stays}
use Rattle.ftc_standing.proofs.SamePlaces.{link_as_before}
use Rattle.ftc_standing.proofs.unmoved.links_stand_still.Goals as goal

pub returns : goal.returns
returns c setting state event link queue run legal beside is =
    let f : IsFirmState setting state =
    (firm c.every_state_tied.ensures c.needs_of_packets.ensures c.withheld_packets.ensures setting state run) in
    link_stays setting state f event legal link queue (link_as_before setting state f.steady event legal link beside) is
