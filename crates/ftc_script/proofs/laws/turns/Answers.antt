use Rattle.ftc_script.specs.Steps.{all_live}
use Rattle.ftc_script.proofs.InTurn as turns
use Rattle.ftc_script.proofs.laws.turns.Goals as goal

pub returns-clause-step : goal.returns-clause-step
returns-clause-step c script k step is e =
    turns.step_at script.ring script.packets 0 all_live script.steps k step is.steps e

pub returns-clause-behind : goal.returns-clause-behind
returns-clause-behind c = turns.live_behind

pub returns-clause-last : goal.returns-clause-last
returns-clause-last c = turns.last_behind

pub returns-clause-keeps : goal.returns-clause-keeps
returns-clause-keeps c = turns.keeps
