use Rattle.std.proofs.Common.{◌∙◌}
use Rattle.ftc_serial.specs.Serial.{serial_opening}
use Rattle.ftc_serial.specs.Held.{rules_of, serial_state}
use Rattle.ftc_serial.specs.Packets.{bytes_of_packets}
use Rattle.ftc_serial.proofs.More.{one_more, first_illegal}
use Rattle.ftc_serial.proofs.serial.Serial.run.Goals as goal

pub returns-in-Err-Bad-clause-bad : goal.returns-in-Err-Bad-clause-bad
returns-in-Err-Bad-clause-bad c =
    first_illegal c.args.spec.now.rules (rules_of c.loop-place.serial)
    (serial_opening (bytes_of_packets c.args.packets.now))
    (serial_state c.loop-place.serial) c.args.trace.now c.as_slice-step-items.result.now c.loop-place.place
    c.step-item.result
    c.loop-place.invariant.0 c.loop-place.invariant.1 c.as_slice-step-items.ensures c.loop-place-test.true
    c.step-item.is
    (let told = rw c.in-Err-Bad.field-0-is at c.in-Err-Bad.ensures.refused in told)

pub loop-place-preserved : goal.loop-place-preserved
loop-place-preserved c = (
  c.step.ensures.rules ∙ c.loop-place.invariant.0,
  one_more c.args.spec.now.rules (rules_of c.loop-place.serial) (serial_opening (bytes_of_packets c.args.packets.now))
      (serial_state c.loop-place.serial)
      (serial_state c.step.new.self) c.args.trace.now c.as_slice-step-items.result.now c.loop-place.place
      c.step-item.result
      c.loop-place.invariant.0 c.loop-place.invariant.1 c.as_slice-step-items.ensures c.loop-place-test.true
      c.step-item.is c.in-Ok.ensures.made,
)
