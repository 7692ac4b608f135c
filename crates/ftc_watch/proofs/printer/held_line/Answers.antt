use Rattle.std.proofs.Common.{◌∙◌}
use Rattle.std.proofs.lemmas.Result.{IfOk-weaker}
use Rattle.ftc_watch.proofs.Lines.{of_held}
use Rattle.ftc_watch.proofs.printer.held_line.Goals as goal

pub returns : goal.returns
returns c = IfOk-weaker c.format.result _ _ (λ line is. is
    ∙ rw (c.number-server.ensures.same, c.number-group.ensures.same)
    (of_held c.args.held.now.at c.args.held.now.server c.args.held.now.group)) c.format.ensures.ok
