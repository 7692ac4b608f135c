use Rattle.ftc_protocol.proofs.ChangeLaws.{all_changed, changed_written, changed_touched}
use Rattle.ftc_protocol.proofs.outcomes.law_of_changes.Goals as goal

pub returns-clause-written : goal.returns-clause-written
returns-clause-written c = all_changed

pub returns-clause-touched : goal.returns-clause-touched
returns-clause-touched c = changed_touched

pub returns-clause-same : goal.returns-clause-same
returns-clause-same c = changed_written
