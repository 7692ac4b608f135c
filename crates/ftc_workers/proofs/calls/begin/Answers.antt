use Rattle.ftc_workers.proofs.Leaving.{gone_but_heads}
use Rattle.ftc_workers.proofs.calls.begin.Goals as goal

pub returns : goal.returns
returns c = gone_but_heads c.args.chain.now c.begin.new.self c.begin.ensures.rest
