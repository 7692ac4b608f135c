use Rattle.std.proofs.Common.{◌∙◌, refl, sym}
use Rattle.ftc_network.proofs.HeldRuns.{unasked_idle}
use Rattle.ftc_network.proofs.committing.refuse_there.Goals as goal

pub returns-in_default-clause-ends : goal.returns-in_default-clause-ends
returns-in_default-clause-ends c =
    (unasked_idle c.args.live.now c.args.worker (sym c.asked.ensures ∙ c.in_default.is), refl)
