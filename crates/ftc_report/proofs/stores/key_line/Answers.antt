use Rattle.std.proofs.Common.{◌∙◌}
use Rattle.std.proofs.lemmas.Result.{IfOk-weaker}
use Rattle.std.specs.Prelude.{string_bytes}
use Rattle.ftc_report.proofs.Grouping.{of_key}
use Rattle.ftc_report.proofs.stores.key_line.Goals as goal

pub returns : goal.returns
returns c =
    let key = rw c.as_slice.ensures.same at c.in_ok-key.ensures in
    IfOk-weaker c.format.result _ _
    (λ line is. is ∙ of_key c.args.pair.now.key c.args.pair.now.value (string_bytes c.in_ok-key.key)
    (string_bytes c.in_ok-value.value) key c.in_ok-value.ensures)
    c.format.ensures.ok
