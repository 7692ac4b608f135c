use Rattle.ftc_workers.proofs.Leaving.{gone_but_heads}
use Rattle.ftc_workers.proofs.calls.quit.Goals as goal

pub returns-clause-gone : goal.returns-clause-gone
returns-clause-gone c = gone_but_heads c.args.chain.now c.quit.new.self c.quit.ensures.quits.rest
