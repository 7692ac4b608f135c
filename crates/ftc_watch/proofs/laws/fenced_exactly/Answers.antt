use Rattle.ftc_watch.proofs.Exact as exact
use Rattle.ftc_watch.proofs.laws.fenced_exactly.Goals as goal

pub returns : goal.returns
returns c = exact.fenced_exactly
