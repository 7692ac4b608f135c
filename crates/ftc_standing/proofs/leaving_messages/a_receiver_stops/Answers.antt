use Rattle.ftc_journal.specs.declared.event.Event.TheVariants.{Crash}
use Rattle.ftc_standing.proofs.Events.{link_emptied}
use Rattle.ftc_standing.proofs.Firm.{firm}
use Rattle.ftc_standing.proofs.SamePlaces.{crash_empties}
use Rattle.ftc_standing.proofs.leaving_messages.a_receiver_stops.Goals as goal

pub returns : goal.returns
returns c setting state server link queue run legal ends is =
    link_emptied setting state
    (firm c.every_state_tied.ensures c.needs_of_packets.ensures c.withheld_packets.ensures setting state run)
    (Crash server) legal link (crash_empties setting state server link ends) queue queue.gap is.gap is.from
