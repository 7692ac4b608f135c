use Rattle.ftc_check.proofs.Standing.{all_visited, none_inside}
use Rattle.ftc_check.proofs.laws.right_runs.Goals as goal

pub returns-clause-visited : goal.returns-clause-visited
returns-clause-visited c =
    λ setting is capture out journal report right. all_visited setting is journal c.released_for_good.ensures.visited
    right.whole.run

pub returns-clause-settled : goal.returns-clause-settled
returns-clause-settled c =
    λ setting is capture out journal report right. none_inside setting is journal c.finished_run.ensures right.whole.run
    right.whole.finished
