use Rattle.std.proofs.Common.{refl, []}
use Rattle.ftc_protocol.specs.State.{opening}
use Rattle.ftc_protocol.proofs.RunLists.{first_legal, rest_legal, joined_legal, state_on, run_next}
use Rattle.ftc_protocol.proofs.journals.runs.Goals as goal

pub returns-clause-front : goal.returns-clause-front
returns-clause-front c = λ setting before after. first_legal setting before after (opening setting)

pub returns-clause-rest : goal.returns-clause-rest
returns-clause-rest c = λ setting before after. rest_legal setting before after (opening setting)

pub returns-clause-joined : goal.returns-clause-joined
returns-clause-joined c = λ setting before after. joined_legal setting before after (opening setting)

pub returns-clause-state : goal.returns-clause-state
returns-clause-state c = λ setting state before after. state_on setting before after state

pub returns-clause-opens : goal.returns-clause-opens
returns-clause-opens c = λ setting is. record { right = is; journal = []; run = tt; reaches = refl }

pub returns-clause-next : goal.returns-clause-next
returns-clause-next c = run_next
