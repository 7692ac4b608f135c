use Rattle.ftc_base.specs.declared.limits.TheConstants.{FINISHING_SLOT}
use Rattle.ftc_workers.proofs.Leaving.{gone_by_step}
use Rattle.ftc_workers.proofs.calls.step.Goals as goal

pub returns : goal.returns
returns c =
    gone_by_step c.step.result FINISHING_SLOT c.args.job.now c.args.chain.now c.step.new.self c.requires.other
    c.step.ensures.ok c.step.ensures.err
