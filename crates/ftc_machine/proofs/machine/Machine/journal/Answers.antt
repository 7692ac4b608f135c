use Rattle.std.proofs.Common.{subst}
use Rattle.std.proofs.Math.Logic.{∥∥₁_map}
use Rattle.ftc_machine.specs.RunSoFar.{RunSoFar, setting_in}
use Rattle.ftc_protocol.specs.Run.{IsRun}
use Rattle.ftc_protocol.specs.Setting.{IsSetting}
use Rattle.ftc_machine.proofs.machine.Machine.journal.Goals as goal

pub returns-clause-run : goal.returns-clause-run
returns-clause-run c = subst (λ (p : RunSoFar). ∥ IsRun (setting_in p) p.journal ∥₁) c.self.view_is
    (∥∥₁_map c.self.invariant (λ played. played.run))

pub returns-clause-setting : goal.returns-clause-setting
returns-clause-setting c =
    subst (λ (p : RunSoFar). ∥ IsSetting (setting_in p) ∥₁) c.self.view_is
    (∥∥₁_map c.self.invariant (λ played. played.right))
