use Rattle.std.proofs.Common.{◌∙◌}
use Rattle.ftc_report.specs.Text.{fate_line}
use Rattle.ftc_report.proofs.Numbering.{lines_of_list}
use Rattle.ftc_report.proofs.fates.append_fates.Goals as goal

pub loop-packet-preserved : goal.loop-packet-preserved
loop-packet-preserved c =
    lines_of_list fate_line c.args.out.now c.loop-packet.out c.append.new.self c.as_bytes.result.now
    c.as_slice-fate-items.result.now c.loop-packet.packet c.fate-item.result
    c.loop-packet-test.true c.fate-item.is c.loop-packet.invariant
    (c.as_bytes.ensures.value ∙ c.in_ok-line.ensures) c.in_ok-append.ensures.ok
