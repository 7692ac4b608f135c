use Rattle.ftc_protocol.proofs.PlainRun.{plain_runs, plain_finishes}
use Rattle.ftc_protocol.proofs.endings.plain_run.Goals as goal

pub returns-clause-run : goal.returns-clause-run
returns-clause-run c = plain_runs

pub returns-clause-finished : goal.returns-clause-finished
returns-clause-finished c = plain_finishes
