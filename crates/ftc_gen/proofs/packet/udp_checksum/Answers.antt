use Rattle.std.proofs.Common.{◌∙◌, arith}
use Rattle.ftc_gen.proofs.Sums.{udp_right, shown_as_all_ones, shown_as_it_is}
use Rattle.ftc_gen.proofs.packet.udp_checksum.Goals as goal

pub returns-then-checksum-eq0 : goal.returns-then-checksum-eq0
returns-then-checksum-eq0 c =
    shown_as_all_ones c.checksum_of-checksum.result _
    (c.checksum_of-checksum.ensures ∙ udp_right c.args.host c.args.port _ (omega arith) (omega arith)) (omega arith)

pub returns-else-checksum-eq0 : goal.returns-else-checksum-eq0
returns-else-checksum-eq0 c =
    shown_as_it_is c.checksum_of-checksum.result _
    (c.checksum_of-checksum.ensures ∙ udp_right c.args.host c.args.port _ (omega arith) (omega arith)) (omega arith)
