use Rattle.ftc_protocol.proofs.FewPropagates.{are_few}
use Rattle.ftc_protocol.proofs.journals.few_propagates.Goals as goal

pub returns : goal.returns
returns c = are_few
