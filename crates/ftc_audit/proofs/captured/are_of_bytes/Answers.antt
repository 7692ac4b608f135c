use Rattle.std.proofs.Common.{add-one, subst}
use Rattle.ftc_packet.specs.Layout.{AreBytes}
use Rattle.ftc_pcap.specs.declared.packets.Packet.{Packet}
use Rattle.ftc_audit.proofs.Lists.{all_more}
use Rattle.ftc_audit.proofs.captured.are_of_bytes.Goals as goal

pub loop-place-preserved : goal.loop-place-preserved
loop-place-preserved c =
    rw add-one (all_more AreBytes (λ (packet : Packet). packet.bytes) c.args.packets.now c.loop-place.place
    c.at.result.now c.at.ensures.same c.loop-place.invariant (subst AreBytes c.as_slice.ensures c.are_bytes.ensures))
