use Rattle.std.proofs.Common.{arith}
use Rattle.ftc_gen.proofs.Sums.{zero_checksum, some_checksum}
use Rattle.ftc_gen.proofs.packet.checksum_of.Goals as goal

pub returns-then-total-eq0 : goal.returns-then-total-eq0
returns-then-total-eq0 c = zero_checksum c.args.total (omega arith)

pub returns : goal.returns
returns c = some_checksum c.args.total (omega arith)
