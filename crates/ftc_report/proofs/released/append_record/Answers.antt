use Rattle.std.proofs.lemmas.Result.{on_ok_weaker}
use Rattle.ftc_pcap.specs.Grammar.{record_bytes, rewritten}
use Rattle.ftc_report.proofs.Recorded.{recorded}
use Rattle.ftc_report.proofs.released.append_record.Goals as goal

pub returns : goal.returns
returns c =
    on_ok_weaker c.write_packet.result
    (λ written. recorded (λ packet. record_bytes c.args.capture.now.big
    (rewritten packet c.args.released.now.bytes)) c.args.capture.now.packets c.args.released.now.packet
    c.args.out.now c.write_packet.new.out c.requires.0 (rw c.as_slice-bytes.ensures at written))
    c.write_packet.ensures.ok
