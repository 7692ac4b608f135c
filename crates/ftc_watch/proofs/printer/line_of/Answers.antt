use Rattle.std.proofs.Common.{◌∙◌, refl}
use Rattle.std.proofs.lemmas.Result.{IfOk-weaker}
use Rattle.ftc_watch.proofs.Lines.{of_crash, of_recover, of_lose}
use Rattle.ftc_watch.proofs.printer.line_of.Goals as goal

pub returns-in-Nothing : goal.returns-in-Nothing
returns-in-Nothing c = rw c.in-Nothing.is (IfOk-weaker c.format.result _ _ (λ line is. is ∙ refl) c.format.ensures.ok)

pub returns-in-Crash : goal.returns-in-Crash
returns-in-Crash c = rw c.in-Crash.is (IfOk-weaker c.format-in-Crash.result _ _
    (λ line is. is ∙ of_crash c.in-Crash.at c.in-Crash.server) c.format-in-Crash.ensures.ok)

pub returns-in-Recover : goal.returns-in-Recover
returns-in-Recover c = rw c.in-Recover.is (IfOk-weaker c.format-in-Recover.result _ _
    (λ line is. is ∙ of_recover c.in-Recover.at c.in-Recover.server) c.format-in-Recover.ensures.ok)

pub returns-in-Lose : goal.returns-in-Lose
returns-in-Lose c = rw c.in-Lose.is (IfOk-weaker c.format-in-Lose.result _ _
    (λ line is. is ∙ of_lose c.in-Lose.link c.in-Lose.origin) c.format-in-Lose.ensures.ok)
