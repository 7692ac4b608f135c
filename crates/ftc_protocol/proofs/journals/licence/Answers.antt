use Rattle.ftc_journal.specs.declared.event.Event.TheVariants.{Lose}
use Rattle.std.proofs.Common.{◌∷◌}
use Rattle.ftc_protocol.specs.State.{opening}
use Rattle.ftc_protocol.proofs.OrderlyStates.{licensed}
use Rattle.ftc_protocol.proofs.RunLists.{rest_legal}
use Rattle.ftc_protocol.proofs.journals.licence.Goals as goal

pub returns-clause-lines : goal.returns-clause-lines
returns-clause-lines c = λ setting journal run. licensed setting journal (opening setting) run

pub returns-clause-loses : goal.returns-clause-loses
returns-clause-loses c = λ setting before after link origin run.
    (rest_legal setting before (Lose link origin ∷ after) (opening setting) run).0.0.3
