use Rattle.ftc_conf.proofs.Within as bounds
use Rattle.ftc_conf.proofs.laws.bounded.Goals as goal

pub returns : goal.returns
returns c = bounds.bounded
