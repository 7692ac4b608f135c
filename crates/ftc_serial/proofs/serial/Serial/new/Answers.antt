use Rattle.ftc_serial.proofs.Made.{same_state, opening_place}
use Rattle.ftc_serial.proofs.serial.Serial.new.Goals as goal

pub returns-clause-opening : goal.returns-clause-opening
returns-clause-opening c =
    same_state _ _ c.in_ok-stores.ensures.empty
    (λ place. opening_place c.args.packets.now c.in_ok-positions.positions.items place c.in_ok-positions.ensures)
    c.new.ensures
