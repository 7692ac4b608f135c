use Rattle.ftc_conf.proofs.Whole as bounds
use Rattle.ftc_conf.proofs.laws.unbounded.Goals as goal

pub returns : goal.returns
returns c = bounds.unbounded
