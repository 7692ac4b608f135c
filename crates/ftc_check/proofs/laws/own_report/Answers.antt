use Rattle.ftc_check.proofs.OwnReport.{own}
use Rattle.ftc_check.proofs.laws.own_report.Goals as goal

pub returns : goal.returns
returns c = own
