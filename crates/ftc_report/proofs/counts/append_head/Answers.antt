use Rattle.std.proofs.Common.{◌∙◌, ◌++◌, ℕ, List, ap, append_assoc}
use Rattle.std.specs.Prelude.{codes}
use Rattle.std.proofs.lemmas.Result.{on_ok_weaker}
use Rattle.ftc_report.specs.Text.{count_lines}
use Rattle.ftc_report.proofs.counts.append_head.Goals as goal

pub returns : goal.returns
returns c =
    on_ok_weaker c.append_counts.result
    (λ added. added ∙ ap (λ (text : List ℕ). text ++ count_lines c.args.fates.now) c.in_ok-append.ensures.ok
    ∙ append_assoc c.args.out.now (codes "ftc-report 1\n") (count_lines c.args.fates.now)) c.append_counts.ensures
