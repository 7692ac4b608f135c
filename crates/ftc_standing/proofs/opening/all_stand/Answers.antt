use Rattle.ftc_standing.proofs.OpeningParts.{server_begins, link_begins}
use Rattle.ftc_standing.proofs.opening.all_stand.Goals as goal

pub returns-clause-server : goal.returns-clause-server
returns-clause-server c = server_begins

pub returns-clause-link : goal.returns-clause-link
returns-clause-link c = link_begins
