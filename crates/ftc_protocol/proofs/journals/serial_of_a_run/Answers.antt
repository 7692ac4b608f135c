use Rattle.ftc_protocol.proofs.WholeTrace.{whole_serial}
use Rattle.ftc_protocol.proofs.journals.serial_of_a_run.Goals as goal

pub returns : goal.returns
returns c = whole_serial
