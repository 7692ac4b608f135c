-- What a serial chain of the program holds.
use Rattle.std.specs.Prelude.{List, slice_get}
use Rattle.ftc_mbox.specs.declared.rule.Rule.{Rule}
use Rattle.ftc_serial.specs.declared.serial.Serial.{Serial}
use Rattle.ftc_serial.specs.Contents.{content_at}
use Rattle.ftc_serial.specs.Serial.{State}

-- its rules
abbrev pub rules_of : Serial → List Rule
rules_of serial = serial.rules

-- its state
abbrev pub serial_state : Serial → State
serial_state serial = record {
  maps = content_at serial.stores.items;
  place = slice_get serial.positions.items;
  released = serial.released;
}
