use Rattle.ftc_watch.proofs.Again as again
use Rattle.ftc_watch.proofs.laws.reads_back.Goals as goal

pub returns : goal.returns
returns c = again.reads_back
