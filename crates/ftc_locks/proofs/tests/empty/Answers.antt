use Rattle.std.proofs.Common.{sym, ◌∙◌}
use Rattle.std.proofs.lemmas.Bool.{false≢true}
use Rattle.ftc_locks.proofs.tests.empty.Goals as goal

pub returns-clause-ages : goal.returns-clause-ages
returns-clause-ages c = λ w p is. absurd (false≢true (sym ((c.new.ensures.free w).held p) ∙ is))
