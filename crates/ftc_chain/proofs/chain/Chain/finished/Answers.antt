use Rattle.std.proofs.Common.{◌∙◌, not, ap}
use Rattle.ftc_protocol.specs.Jobs.{IsFirstJob}
use Rattle.ftc_chain.specs.ChainRun.{setting_in, chain_state}
use Rattle.ftc_chain.proofs.AtRest.{some_cannot}
use Rattle.ftc_chain.proofs.chain.Chain.finished.Goals as goal

pub returns-clause-unfinished : goal.returns-clause-unfinished
returns-clause-unfinished c no_none finished =
    let run = c.args.self.now in
    some_cannot (IsFirstJob (setting_in run) (chain_state run)) c.next.result (c.is_none.ensures ∙ ap not no_none)
    (λ job first. c.first_job.ensures.unfinished (setting_in run)
    (chain_state run) job first finished) c.next.ensures.first
