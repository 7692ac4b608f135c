use Rattle.ftc_serial.proofs.Histories.{removed_history}
use Rattle.ftc_serial.proofs.laws.removal_from_history.Goals as goal

pub returns : goal.returns
returns c = removed_history
