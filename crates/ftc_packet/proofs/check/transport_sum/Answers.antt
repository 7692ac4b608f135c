use Rattle.std.proofs.Common.{◌-◌, arith}
use Rattle.ftc_packet.proofs.PacketSums.{transport_sum-running}
use Rattle.ftc_packet.proofs.check.transport_sum.Goals as goal

pub returns : goal.returns
returns c =
    let bytes = c.args.bytes.now in
    let transport = c.transport_start-transport.result in
    let n = c.datagram_end-end.result - transport in
    let running = transport_sum-running bytes transport n c.requires.flow.captured (omega arith) (omega arith) in
    cc
