use Rattle.ftc_ring.proofs.Nearest as nearest
use Rattle.ftc_ring.proofs.laws.admissible.Goals as goal

pub returns-clause-nobody : goal.returns-clause-nobody
returns-clause-nobody c = nearest.nobody_down

pub returns-clause-more : goal.returns-clause-more
returns-clause-more c = nearest.more_live

pub returns-clause-first : goal.returns-clause-first
returns-clause-first c = nearest.admissible_first
