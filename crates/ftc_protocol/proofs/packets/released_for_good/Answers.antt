use Rattle.ftc_protocol.proofs.Prefixes.{kept_on}
use Rattle.ftc_protocol.proofs.ReleasedVisits.{all_visited}
use Rattle.ftc_protocol.proofs.packets.released_for_good.Goals as goal

pub returns-clause-stays : goal.returns-clause-stays
returns-clause-stays c = kept_on

pub returns-clause-visited : goal.returns-clause-visited
returns-clause-visited c = all_visited
