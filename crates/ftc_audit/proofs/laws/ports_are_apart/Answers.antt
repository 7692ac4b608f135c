use Rattle.ftc_audit.proofs.PortLaw.{ports_apart}
use Rattle.ftc_audit.proofs.laws.ports_are_apart.Goals as goal

pub returns : goal.returns
returns c = ports_apart
