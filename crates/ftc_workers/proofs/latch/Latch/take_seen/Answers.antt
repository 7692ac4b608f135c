use Rattle.std.proofs.Common.{rules}
use Rattle.std.proofs.Math.Logic.{∥∥₁_map}
use Rattle.ftc_journal.specs.declared.job.Job.TheVariants as job
use Rattle.ftc_chain.specs.ChainRun.{ChainRun, setting_in, chain_state}
use Rattle.ftc_protocol.specs.Jobs.{IsLegalJob}
use Rattle.ftc_workers.proofs.latch.Latch.take_seen.Goals as goal

pub take_seen-requires : goal.take_seen-requires
take_seen-requires g c =
    let run : ChainRun = c.args.self.now.chain in
    let legal : ∥ IsLegalJob (setting_in run) (chain_state run) (job.Take c.args.link c.args.origin) ∥₁ =
    search rules in
    ∥∥₁_map legal (λ is. (c.args.origin, is))
