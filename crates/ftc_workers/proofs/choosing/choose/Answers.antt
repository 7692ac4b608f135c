use Rattle.std.proofs.Common.{sym, ◌∙◌}
use Rattle.ftc_workers.proofs.Jobs.{may_first}
use Rattle.ftc_workers.proofs.choosing.choose.Goals as goal

pub returns : goal.returns
returns c =
    may_first c.args.chain.now c.in-Some.job (sym c.is_run.ensures ∙ c.if-is_run.false) c.in-Some.ensures.first
