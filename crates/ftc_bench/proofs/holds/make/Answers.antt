use Rattle.std.proofs.Common.{subst}
use Rattle.ftc_journal.specs.declared.job.Job.{Job}
use Rattle.ftc_protocol.specs.Jobs.{IsLegalJob}
use Rattle.ftc_chain.specs.ChainRun.{ChainRun, setting_in, chain_state}
use Rattle.ftc_bench.proofs.holds.make.Goals as goal

abbrev MayBeDone : ChainRun → Job → Type 0
MayBeDone run job = ∥ IsLegalJob (setting_in run) (chain_state run) job ∥₁

pub visit-requires : goal.visit-requires
visit-requires g c = subst (MayBeDone c.args.chain.now) c.in-Visit.is c.requires

pub take-requires : goal.take-requires
take-requires g c = subst (MayBeDone c.args.chain.now) c.in-Take.is c.requires
