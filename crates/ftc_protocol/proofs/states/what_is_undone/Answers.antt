use Rattle.ftc_protocol.proofs.TestMeanings.{undone_means, undone_closed}
use Rattle.ftc_protocol.proofs.UndoneOnce.{undone_order, undone_once, undone_lost}
use Rattle.ftc_protocol.proofs.states.what_is_undone.Goals as goal

pub returns-clause-undone : goal.returns-clause-undone
returns-clause-undone c = λ setting state server visits reached. (undone_means setting state reached server visits)

pub returns-clause-closed : goal.returns-clause-closed
returns-clause-closed c = λ setting state server visits reached. undone_closed setting state reached server visits

pub returns-clause-order : goal.returns-clause-order
returns-clause-order c = undone_order

pub returns-clause-once : goal.returns-clause-once
returns-clause-once c = undone_once

pub returns-clause-lost : goal.returns-clause-lost
returns-clause-lost c = λ setting state server visits reached. undone_lost setting state reached server visits
