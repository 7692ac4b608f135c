use Rattle.ftc_ties.proofs.Serving.{steady}
use Rattle.ftc_standing.proofs.SamePlaces.{server_as_before, link_as_before}
use Rattle.ftc_standing.proofs.unmoved.others_as_before.Goals as goal

pub returns-clause-server : goal.returns-clause-server
returns-clause-server c setting state event server run legal beside =
    server_as_before setting state (steady c.every_state_tied.ensures setting state run) event legal server beside

pub returns-clause-link : goal.returns-clause-link
returns-clause-link c setting state event link run legal beside =
    link_as_before setting state (steady c.every_state_tied.ensures setting state run) event legal link beside
