use Rattle.std.proofs.Common.{rules}
use Rattle.ftc_ring.proofs.Nearest.{before_some, before_not}
use Rattle.ftc_ring.proofs.ring.Ring.live_before.Goals as goal

pub returns-clause-value : goal.returns-clause-value
returns-clause-value c = search rules

pub returns-clause-nearest : goal.returns-clause-nearest
returns-clause-nearest c = before_some _ _ _ _ c.requires (returns-clause-value c)

pub returns-clause-none : goal.returns-clause-none
returns-clause-none c = before_not _ _ _ _ c.requires (returns-clause-value c)
