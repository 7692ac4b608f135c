use Rattle.ftc_serial.specs.Serial.{serial_opening}
use Rattle.ftc_serial.specs.Packets.{bytes_of_packets}
use Rattle.ftc_report.proofs.Legal.{not_illegal}
use Rattle.ftc_report.proofs.over.chain_after.Goals as goal

pub unreachable-requires : goal.unreachable-requires
unreachable-requires c =
    let first = rw c.in-Err-Bad.field-0-is at c.in-Err-Bad.ensures.bad in
    not_illegal c.args.spec.now.rules
    (serial_opening (bytes_of_packets c.args.packets.now)) c.args.trace.now c.in-Err-Bad.field-0-0.place first
    c.requires
