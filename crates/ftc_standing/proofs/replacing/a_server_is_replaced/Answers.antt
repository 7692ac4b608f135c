use Rattle.ftc_journal.specs.declared.event.Event.TheVariants.{Recover}
use Rattle.ftc_ties.proofs.Serving.{steady}
use Rattle.ftc_standing.proofs.Events.{link_emptied, link_moved}
use Rattle.ftc_standing.proofs.Firm.{firm}
use Rattle.ftc_standing.proofs.Reviving.{server_revived}
use Rattle.ftc_standing.proofs.SamePlaces.{recovery_empties, recovery_keeps}
use Rattle.ftc_standing.proofs.WholeServers.{drops_unready}
use Rattle.ftc_standing.proofs.replacing.a_server_is_replaced.Goals as goal

pub returns-clause-revived : goal.returns-clause-revived
returns-clause-revived c setting state server undone previous following new run legal previous_is following_is revived =
    server_revived setting state
    (steady c.every_state_tied.ensures setting state run) server undone legal previous following
    new previous_is following_is revived

pub returns-clause-following : goal.returns-clause-following
returns-clause-following c setting state server undone contents stays run legal differs meaning is =
    drops_unready setting state
    (firm c.every_state_tied.ensures c.needs_of_packets.ensures c.withheld_packets.ensures setting state run)
    server undone legal contents stays differs meaning is

pub returns-clause-emptied : goal.returns-clause-emptied
returns-clause-emptied c setting state server link undone queue gap run legal ends gap_is is =
    link_emptied setting state
    (firm c.every_state_tied.ensures c.needs_of_packets.ensures c.withheld_packets.ensures setting state run)
    (Recover server undone) legal link (recovery_empties setting state server undone link ends) queue gap gap_is is.from

pub returns-clause-link : goal.returns-clause-link
returns-clause-link c setting state server link undone queue gap run legal differs gap_is is =
    link_moved setting state
    (firm c.every_state_tied.ensures c.needs_of_packets.ensures c.withheld_packets.ensures setting state run)
    (Recover server undone) legal link queue gap (recovery_keeps setting state server undone link differs) gap_is is
