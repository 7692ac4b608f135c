use Rattle.ftc_audit.proofs.BackendLaw.{one_backend}
use Rattle.ftc_audit.proofs.laws.backends_stay.Goals as goal

pub returns : goal.returns
returns c = one_backend
