use Rattle.ftc_workers.proofs.Leaving.{gone_by_read}
use Rattle.ftc_workers.proofs.calls.read.Goals as goal

pub returns : goal.returns
returns c = gone_by_read c.args.chain.now c.read.new.self c.args.worker c.args.key.now c.read.result c.read.ensures
