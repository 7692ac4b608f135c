use Rattle.std.proofs.Common.{◌∙◌, ap}
use Rattle.ftc_replica.specs.Kept.{KeptLogs}
use Rattle.ftc_replica.proofs.Left.{left_none}
use Rattle.ftc_replica.proofs.kept.Kept.copy.Goals as goal

pub returns : goal.returns
returns c =
    left_none c.in_ok-logs.logs.items ∙ c.in_ok-logs.ensures ∙ ap (λ (kept : KeptLogs). kept.items) c.self.view_is
