use Rattle.ftc_mbox.proofs.Visits.{rules_are_bounded}
use Rattle.ftc_mbox.proofs.laws.law_of_visits.Goals as goal

pub returns : goal.returns
returns c = rules_are_bounded
