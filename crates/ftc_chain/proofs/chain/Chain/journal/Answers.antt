use Rattle.std.proofs.Common.{subst}
use Rattle.std.proofs.Math.Logic.{∥∥₁_map}
use Rattle.ftc_chain.specs.ChainRun.{ChainRun, setting_in}
use Rattle.ftc_protocol.specs.Run.{IsRun}
use Rattle.ftc_protocol.specs.Setting.{IsSetting}
use Rattle.ftc_chain.proofs.chain.Chain.journal.Goals as goal

pub returns-clause-run : goal.returns-clause-run
returns-clause-run c = subst (λ (run : ChainRun). ∥ IsRun (setting_in run) run.journal ∥₁) c.self.view_is
    (∥∥₁_map c.self.invariant.1 (λ resting. resting.course_is.run))

pub returns-clause-setting : goal.returns-clause-setting
returns-clause-setting c = subst (λ (run : ChainRun). ∥ IsSetting (setting_in run) ∥₁) c.self.view_is
    (∥∥₁_map c.self.invariant.1 (λ resting. resting.course_is.right))
