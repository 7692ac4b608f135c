use Rattle.std.proofs.Math.Logic.{∥∥₁_elim}
use Rattle.ftc_serial.specs.Packets.{bytes_of_packets}
use Rattle.ftc_protocol.specs.Setting.{setting_of}
use Rattle.ftc_machine.proofs.JournalReplay.{none_illegal}
use Rattle.ftc_machine.proofs.replaying.fates_of.Goals as goal

pub unreachable-requires : goal.unreachable-requires
unreachable-requires c =
    let illegal = rw c.in-Err-Bad.field-0-is at c.in-Err-Bad.ensures.bad in
    ∥∥₁_elim c.requires.run (λ x y. absurd x) (λ run.
    none_illegal (setting_of c.args.spec.now
    (bytes_of_packets c.args.packets.now) c.args.script.now) c.args.journal.now.items c.in-Err-Bad.field-0-0.event
    run illegal)
