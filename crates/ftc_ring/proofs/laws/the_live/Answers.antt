use Rattle.ftc_ring.proofs.Nearest as nearest
use Rattle.ftc_ring.proofs.laws.the_live.Goals as goal

pub returns-clause-first_found : goal.returns-clause-first_found
returns-clause-first_found c = nearest.first_found

pub returns-clause-first_none : goal.returns-clause-first_none
returns-clause-first_none c = nearest.first_none

pub returns-clause-gone_found : goal.returns-clause-gone_found
returns-clause-gone_found c = nearest.gone_found

pub returns-clause-gone_none : goal.returns-clause-gone_none
returns-clause-gone_none c = nearest.gone_none

pub returns-clause-before_found : goal.returns-clause-before_found
returns-clause-before_found c = nearest.before_found

pub returns-clause-before_none : goal.returns-clause-before_none
returns-clause-before_none c = nearest.before_none

pub returns-clause-after_found : goal.returns-clause-after_found
returns-clause-after_found c = nearest.after_found

pub returns-clause-after_none : goal.returns-clause-after_none
returns-clause-after_none c = nearest.after_none
