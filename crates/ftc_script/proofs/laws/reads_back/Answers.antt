use Rattle.ftc_script.proofs.ReadAgain as again
use Rattle.ftc_script.proofs.laws.reads_back.Goals as goal

pub returns : goal.returns
returns c = again.reads_back
