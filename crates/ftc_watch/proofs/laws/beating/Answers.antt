use Rattle.ftc_watch.proofs.Clean.{never_fenced}
use Rattle.ftc_watch.proofs.laws.beating.Goals as goal

pub returns : goal.returns
returns c = never_fenced
