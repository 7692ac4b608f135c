use Rattle.std.proofs.Common.{◌∙◌, sym, subst, List}
use Rattle.std.specs.Prelude.{IsSome}
use Rattle.ftc_serial.specs.declared.step.Step.{Step}
use Rattle.ftc_serial.specs.Serial.{serial_opening, serial_run}
use Rattle.ftc_serial.specs.Packets.{bytes_of_packets}
use Rattle.ftc_protocol.specs.Setting.{setting_of}
use Rattle.ftc_machine.proofs.RunInputs.{bytes_count}
use Rattle.ftc_report.proofs.Ended.{has_end}
use Rattle.ftc_report.proofs.over.report.Goals as goal

pub chain_after-requires : goal.chain_after-requires
chain_after-requires c =
    let chain = c.args.spec.now in
    let packets = bytes_of_packets c.args.packets.now in
    let setting = c.accepted.ensures.setting chain packets c.args.script.now c.rules.ensures.bounds
    c.ring.ensures.accepted c.requires.ring (c.requires.packets ∙ sym (bytes_count c.args.packets.now)) in
    subst (λ (steps : List Step). IsSome (serial_run chain.rules (serial_opening packets) steps))
    (sym c.in_ok-trace.ensures)
    (has_end (setting_of chain packets c.args.script.now) c.args.journal.now.items c.serial_of_a_run.ensures ∣ setting
    ∣₁ c.requires.run)
