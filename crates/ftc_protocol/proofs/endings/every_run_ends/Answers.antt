use Rattle.ftc_protocol.proofs.MeasureNumber.{work_falls, bounded}
use Rattle.ftc_protocol.proofs.endings.every_run_ends.Goals as goal

pub returns-clause-falls : goal.returns-clause-falls
returns-clause-falls c = work_falls

pub returns-clause-bounded : goal.returns-clause-bounded
returns-clause-bounded c = bounded
