use Rattle.std.proofs.Common.{◌∙◌, arith}
use Rattle.ftc_gen.proofs.Sums.{ipv4_right}
use Rattle.ftc_gen.proofs.packet.ipv4_checksum.Goals as goal

pub returns : goal.returns
returns c = c.checksum_of.ensures ∙ ipv4_right c.args.identification c.args.host _ (omega arith) (omega arith)
