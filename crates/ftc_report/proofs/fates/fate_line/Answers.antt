use Rattle.std.proofs.Common.{◌∙◌, append_assoc}
use Rattle.std.proofs.lemmas.Result.{IfOk-weaker}
use Rattle.ftc_report.specs.Text.{fate_line}
use Rattle.ftc_report.proofs.fates.fate_line.Goals as goal

pub returns-in-Filtered : goal.returns-in-Filtered
unfolding fate_line
returns-in-Filtered c = rw c.in-Filtered.is
    (IfOk-weaker c.format-in-Filtered.result _ _
    (λ line is. is ∙ rw c.number-server.ensures.same (simp append_assoc)) c.format-in-Filtered.ensures.ok)

pub returns-in-Lost : goal.returns-in-Lost
unfolding fate_line
returns-in-Lost c = rw c.in-Lost.is
    (IfOk-weaker c.format-in-Lost.result _ _ (λ line is. is ∙ simp append_assoc) c.format-in-Lost.ensures.ok)
