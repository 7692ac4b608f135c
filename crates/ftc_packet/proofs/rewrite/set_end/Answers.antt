use Rattle.std.proofs.Common.{◌≡◌, subst, sym}
use Rattle.ftc_packet.specs.Check.{IsRight}
use Rattle.ftc_packet.specs.Rewrite.{with_end}
use Rattle.ftc_packet.proofs.RightSums.{with_end_stays_right}
use Rattle.ftc_packet.proofs.rewrite.set_end.Goals as goal

pub returns-clause-right : goal.returns-clause-right
unfolding with_end
returns-clause-right c =
    let bytes = c.args.bytes.now in
    let same : c.put_word-3.new.bytes ≡ with_end bytes c.args.end c.args.address c.args.port = cc in
    λ right. subst IsRight (sym same)
    (with_end_stays_right bytes c.args.end c.args.address c.args.port
    c.new_transport_checksum-transport_checksum.ensures.read right)
