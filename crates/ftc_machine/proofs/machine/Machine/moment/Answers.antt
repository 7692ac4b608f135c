use Rattle.std.proofs.Common.{[], sym, subst}
use Rattle.std.proofs.Math.Logic.{∥∥₁_map₂}
use Rattle.std.proofs.lemmas.List.{append-nil}
use Rattle.ftc_protocol.specs.Run.{IsRun}
use Rattle.ftc_machine.specs.RunSoFar.{setting_in}
use Rattle.ftc_machine.proofs.machine.Machine.moment.Goals as goal

pub returns : goal.returns
returns c =
    let setting = setting_in c.args.self.now in
    let journal = c.args.self.now.journal in
    ∥∥₁_map₂ c.journal.ensures.setting c.journal.ensures.run
    (λ is run. c.every_moment.ensures setting is journal [] (subst (IsRun setting) (sym (append-nil journal)) run))
