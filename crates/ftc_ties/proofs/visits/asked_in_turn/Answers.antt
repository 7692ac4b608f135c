use Rattle.std.proofs.Common.{[]}
use Rattle.ftc_ties.proofs.Answering.{in_turn, one_by_one}
use Rattle.ftc_ties.proofs.visits.asked_in_turn.Goals as goal

pub returns : goal.returns
returns c rule packet answers = (in_turn rule packet [] answers, one_by_one rule packet [] answers)
