use Rattle.std.proofs.Common.{◌≡◌, false, subst}
use Rattle.std.proofs.Math.Logic.{∥∥₁_map}
use Rattle.ftc_base.specs.declared.limits.TheConstants.{FINISHING_SLOT}
use Rattle.ftc_base.proofs.Results.{on_ok_map}
use Rattle.ftc_journal.specs.declared.job.Job.{Job}
use Rattle.ftc_chain.specs.ChainRun.{setting_in, chain_state}
use Rattle.ftc_protocol.specs.Jobs.{IsLegalJob}
use Rattle.ftc_chain.specs.Course.{HasMade}
use Rattle.ftc_chain.specs.Doing.{is_visit}
use Rattle.ftc_alone.proofs.FinishSteps.{made_in, isnt_visit}
use Rattle.ftc_alone.proofs.IdleRuns.{idle_stepped, refused_but}
use Rattle.ftc_alone.proofs.finishing.make.Goals as goal

pub visit-requires : goal.visit-requires
visit-requires c =
    subst (λ (job : Job). ∥ IsLegalJob (setting_in c.args.chain.now)
    (chain_state c.args.chain.now) job ∥₁) c.in-Visit.is c.requires

pub returns : goal.returns
returns c =
    let other : is_visit c.args.job.now ≡ false = isnt_visit c.args.job.now c.in_default.not-Visit in
    record {
      ok = on_ok_map c.step.result (∥ HasMade FINISHING_SLOT c.args.job.now c.args.chain.now c.step.new.self ∥₁)
          (∥ HasMade c.args.worker c.args.job.now c.args.chain.now c.step.new.self ∥₁)
          (λ made. ∥∥₁_map made (made_in FINISHING_SLOT c.args.worker c.args.job.now c.args.chain.now c.step.new.self
          other))
          c.step.ensures.ok;
      err = refused_but c.step.result c.args.chain.now c.step.new.self c.step.ensures.err;
      idle = idle_stepped c.step.result c.args.job.now c.args.chain.now c.step.new.self c.step.ensures.heads
          c.step.ensures.err;
    }
