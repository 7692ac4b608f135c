use Rattle.ftc_check.proofs.Whole.{right, only}
use Rattle.ftc_check.proofs.laws.right_files.Goals as goal

pub returns-clause-right : goal.returns-clause-right
returns-clause-right c = right

pub returns-clause-only : goal.returns-clause-only
returns-clause-only c = only
