use Rattle.ftc_conf.proofs.Within as bounds
use Rattle.ftc_conf.proofs.laws.wider.Goals as goal

pub returns-clause-wider : goal.returns-clause-wider
returns-clause-wider c = bounds.wider

pub returns-clause-kept : goal.returns-clause-kept
returns-clause-kept c = bounds.kept
