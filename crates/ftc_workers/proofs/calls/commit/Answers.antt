use Rattle.ftc_workers.proofs.Leaving.{gone_by_commit}
use Rattle.ftc_workers.proofs.calls.commit.Goals as goal

pub returns : goal.returns
returns c = gone_by_commit c.args.chain.now c.commit.new.self c.args.worker c.commit.result c.commit.ensures
