use Rattle.ftc_base.specs.declared.limits.TheConstants.{FINISHING_SLOT}
use Rattle.ftc_workers.proofs.Leaving.{gone_by_take}
use Rattle.ftc_workers.proofs.calls.take_seen.Goals as goal

pub returns : goal.returns
returns c =
    gone_by_take c.take_seen.result FINISHING_SLOT c.args.link c.args.chain.now c.take_seen.new.self c.requires
    c.take_seen.ensures.ok c.take_seen.ensures.err
