use Rattle.std.proofs.Common.{◌≡◌, Some, take}
use Rattle.ftc_serial.specs.Serial.{serial_opening, serial_run}
use Rattle.ftc_serial.specs.Held.{rules_of, serial_state}
use Rattle.ftc_serial.specs.Packets.{bytes_of_packets}
use Rattle.ftc_serial.proofs.serial.Serial.run.Given as goal

abbrev pub invariant-loop-place : goal.invariant-loop-place
invariant-loop-place l =
    (rules_of l.serial ≡ l.spec.rules)
    × (serial_run l.spec.rules (serial_opening (bytes_of_packets l.packets)) (take l.place l.trace)
    ≡ Some (serial_state l.serial))
