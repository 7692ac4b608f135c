use Rattle.ftc_report.proofs.Writable.{run_writable}
use Rattle.ftc_report.proofs.laws.released_fit.Goals as goal

pub returns : goal.returns
returns c rules steps end run = run_writable c.args.packets.now rules steps end c.len.ensures.bounds.short run
