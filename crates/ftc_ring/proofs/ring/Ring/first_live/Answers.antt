use Rattle.std.proofs.Common.{rules}
use Rattle.ftc_ring.proofs.Nearest.{first_some, first_not}
use Rattle.ftc_ring.proofs.ring.Ring.first_live.Goals as goal

pub returns-clause-value : goal.returns-clause-value
returns-clause-value c = search rules

pub returns-clause-first : goal.returns-clause-first
returns-clause-first c = first_some _ _ _ _ c.failures.ensures.bounds c.requires (returns-clause-value c)

pub returns-clause-none : goal.returns-clause-none
returns-clause-none c = first_not _ _ _ _ c.failures.ensures.bounds c.requires (returns-clause-value c)
