use Rattle.ftc_txn.proofs.CommitLogs.{log_ready, log_raises, log_covered, log_marks_some}
use Rattle.ftc_txn.proofs.laws.logs.Goals as goal

pub returns : goal.returns
returns c = record { ready = log_ready; raised = log_raises; covered = log_covered; marks = log_marks_some }
