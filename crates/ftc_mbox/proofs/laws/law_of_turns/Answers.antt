use Rattle.ftc_mbox.proofs.InTurn.{in_turn}
use Rattle.ftc_mbox.proofs.laws.law_of_turns.Goals as goal

pub returns : goal.returns
returns c = in_turn
