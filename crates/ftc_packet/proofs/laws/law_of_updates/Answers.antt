use Rattle.ftc_packet.proofs.Numbers.{updates_recompute, updates_stay_right}
use Rattle.ftc_packet.proofs.laws.law_of_updates.Goals as goal

pub returns-clause-stay_right : goal.returns-clause-stay_right
returns-clause-stay_right c = updates_stay_right

pub returns-clause-recompute : goal.returns-clause-recompute
returns-clause-recompute c = updates_recompute
