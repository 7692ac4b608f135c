use Rattle.std.proofs.Common.{◌∙◌}
use Rattle.std.proofs.lemmas.Result.{IfOk-weaker}
use Rattle.ftc_report.proofs.Grouping.{of_count_lines}
use Rattle.ftc_report.proofs.counts.count_lines.Goals as goal

pub returns : goal.returns
returns c =
    IfOk-weaker c.format.result _ _
    (λ text is. is ∙ of_count_lines c.args.fates.now c.len-packets.result c.released-released.result
    c.filtered-filtered.result c.lost-lost.result c.len-packets.ensures c.released-released.ensures
    c.filtered-filtered.ensures c.lost-lost.ensures)
    c.format.ensures.ok
