use Rattle.ftc_replica.proofs.Needed.{covered}
use Rattle.ftc_replica.proofs.laws.covering.Goals as goal

pub returns : goal.returns
returns c = covered
