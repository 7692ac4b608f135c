use Rattle.std.proofs.Common.{refl}
use Rattle.ftc_ring.proofs.Nearest.{nobody_down}
use Rattle.ftc_script.specs.Steps.{all_live}
use Rattle.ftc_script.proofs.InTurn.{admissible_on}
use Rattle.ftc_script.proofs.Acceptance.{text_accepts}
use Rattle.ftc_script.proofs.laws.accepted.Goals as goal

pub returns-clause-parts : goal.returns-clause-parts
returns-clause-parts c = text_accepts

pub returns-clause-admissible : goal.returns-clause-admissible
returns-clause-admissible c script k is =
    admissible_on script.ring script.packets 0 all_live script.steps k
    (nobody_down script.ring all_live is.ring (λ j lj. refl)) is.steps
