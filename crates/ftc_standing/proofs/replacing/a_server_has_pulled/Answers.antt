use Rattle.std.proofs.Common.{refl}
use Rattle.ftc_journal.specs.declared.event.Event.TheVariants.{Pull}
use Rattle.ftc_standing.proofs.Events.{link_moved}
use Rattle.ftc_standing.proofs.Firm.{firm}
use Rattle.ftc_standing.proofs.WholeServers.{pulls_all}
use Rattle.ftc_standing.proofs.replacing.a_server_has_pulled.Goals as goal

pub returns-clause-receiver : goal.returns-clause-receiver
returns-clause-receiver c setting state link tail contents sender later mine theirs run legal inside tail_is shared
    pulls mine_is theirs_is is sender_is =
    pulls_all setting state (firm c.every_state_tied.ensures c.needs_of_packets.ensures c.withheld_packets.ensures
    setting state run)
    link tail legal contents sender later mine theirs inside tail_is shared pulls mine_is theirs_is is sender_is

pub returns-clause-link : goal.returns-clause-link
returns-clause-link c setting state pulled link queue gap run legal gap_is is =
    link_moved setting state
    (firm c.every_state_tied.ensures c.needs_of_packets.ensures c.withheld_packets.ensures setting state run)
    (Pull pulled) legal link queue gap (λ origin. refl) gap_is is
