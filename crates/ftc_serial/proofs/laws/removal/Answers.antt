use Rattle.ftc_serial.proofs.Runs.{removed}
use Rattle.ftc_serial.proofs.laws.removal.Goals as goal

pub returns : goal.returns
returns c = removed
