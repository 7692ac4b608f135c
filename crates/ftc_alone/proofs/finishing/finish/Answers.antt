use Rattle.std.proofs.Common.{subst}
use Rattle.ftc_base.proofs.Results.{on_ok_map, on_err_map}
use Rattle.ftc_chain.specs.ChainRun.{ChainRun, setting_in}
use Rattle.ftc_protocol.specs.Drive.{IsFinish}
use Rattle.ftc_alone.specs.Alone.{IsInFinish}
use Rattle.ftc_alone.proofs.FinishSteps.{given_on, given_heads}
use Rattle.ftc_alone.proofs.finishing.finish.Goals as goal

pub returns-clause-ok : goal.returns-clause-ok
returns-clause-ok c =
    on_ok_map c.finish_idle.result _ _
    (subst (λ (run : ChainRun). ∥ IsFinish (setting_in run) run.journal c.finish_idle.new.chain.journal ∥₁)
    c.quit_all.ensures.rest) c.finish_idle.ensures.ok

pub returns-clause-err : goal.returns-clause-err
returns-clause-err c =
    on_err_map c.finish_idle.result _ _
    (subst (λ (run : ChainRun). ∥ IsInFinish (setting_in run) run.journal c.finish_idle.new.chain.journal ∥₁)
    c.quit_all.ensures.rest) c.finish_idle.ensures.err

pub returns-clause-given : goal.returns-clause-given
returns-clause-given c =
    given_on c.args.chain.now c.quit_all.new.chain c.finish_idle.new.chain
    (given_heads c.args.chain.now c.quit_all.new.chain c.quit_all.ensures.rest) c.finish_idle.ensures.given
