use Rattle.ftc_gen.proofs.Captured.{counted, is_capture}
use Rattle.ftc_gen.proofs.laws.is_a_capture.Goals as goal

pub returns-clause-capture : goal.returns-clause-capture
returns-clause-capture c = is_capture

pub returns-clause-count : goal.returns-clause-count
returns-clause-count c = counted
