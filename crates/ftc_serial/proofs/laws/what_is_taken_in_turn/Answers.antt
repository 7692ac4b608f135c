use Rattle.ftc_serial.proofs.TakenInTurn.{outcome_in_turn}
use Rattle.ftc_serial.proofs.laws.what_is_taken_in_turn.Goals as goal

pub returns : goal.returns
returns c = outcome_in_turn
