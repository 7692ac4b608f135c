use Rattle.ftc_serial.proofs.Written.{written_read}
use Rattle.ftc_serial.proofs.laws.what_it_reads.Goals as goal

pub returns : goal.returns
returns c = written_read
