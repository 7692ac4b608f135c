use Rattle.std.proofs.Common.{subst}
use Rattle.ftc_chain.specs.ChainRun.{setting_in, chain_state}
use Rattle.ftc_journal.specs.declared.job.Job.{Job}
use Rattle.ftc_protocol.specs.Jobs.{IsLegalJob}
use Rattle.ftc_workers.proofs.tests.do_job.Goals as goal

pub begin-requires-clause-legal : goal.begin-requires-clause-legal
begin-requires-clause-legal c =
    subst (λ (job : Job). ∥ IsLegalJob (setting_in c.args.chain.now)
    (chain_state c.args.chain.now) job ∥₁) c.in-Visit.is
    c.requires.legal
