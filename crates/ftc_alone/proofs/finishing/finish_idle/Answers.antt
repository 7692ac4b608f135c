use Rattle.std.proofs.Common.{◌≡◌, ℕ, rules, refl, sym, subst}
use Rattle.std.proofs.Math.Bridge.{le_prop}
use Rattle.std.proofs.Math.Logic.{∥∥₁_map, ∥∥₁_map₂, ∥∥₁_elim, ∥∥₁_prop}
use Rattle.ftc_base.specs.declared.limits.TheConstants.{FINISHING_SLOT}
use Rattle.ftc_base.proofs.Results.{on_any_err}
use Rattle.ftc_chain.specs.ChainRun.{ChainRun, setting_in}
use Rattle.ftc_chain.specs.Course.{HasMade}
use Rattle.ftc_alone.specs.Alone.{IsInFinish}
use Rattle.ftc_alone.proofs.FinishSteps.{LeadsBack, given_made, given_on, given_heads, nearer, back_one, back_on}
use Rattle.ftc_alone.proofs.FinishSteps.{in_finish, at_end}
use Rattle.ftc_alone.proofs.Results.{same_run}
use Rattle.ftc_alone.proofs.finishing.finish_idle.Goals.{After-journal-in-Some}
use Rattle.ftc_alone.proofs.finishing.finish_idle.Goals as goal

pub make-requires : goal.make-requires
make-requires c = ∥∥₁_map c.in-Some.ensures.first (λ first. first.legal)

-- the first job was made, a visit in the last slot
made : (c : After-journal-in-Some) → ∥ HasMade FINISHING_SLOT c.in-Some.job c.loop-job.chain c.make.new.chain ∥₁
made c =
    let worker : c.unwrap-worker.result ≡ FINISHING_SLOT = search rules in
    subst (λ (slot : ℕ). ∥ HasMade slot c.in-Some.job c.loop-job.chain c.make.new.chain ∥₁) worker
    c.in_ok-make.ensures.ok

pub returns-in_err-make-clause-err : goal.returns-in_err-make-clause-err
returns-in_err-make-clause-err c =
    let first : ChainRun = c.args.chain.now in let now : ChainRun = c.loop-job.chain in
    let within : ∥ IsInFinish (setting_in first) first.journal now.journal ∥₁ =
    ∥∥₁_elim c.loop-job.invariant.back ∥∥₁_prop (λ back.
    ∥∥₁_map₂ c.loop-job.invariant.right c.loop-job.invariant.run
    (in_finish first now c.loop-job.invariant.given back c.finish.ensures.exists)) in
    on_any_err c.from_residual.result (∥ IsInFinish (setting_in first) first.journal c.make.new.chain.journal ∥₁)
    (subst (λ (run : ChainRun). ∥ IsInFinish (setting_in first) first.journal run.journal ∥₁)
    (sym c.in_err-make.ensures.err) within)

pub returns-in_err-make-clause-given : goal.returns-in_err-make-clause-given
returns-in_err-make-clause-given c =
    given_on c.args.chain.now c.loop-job.chain c.make.new.chain c.loop-job.invariant.given
    (given_heads c.loop-job.chain c.make.new.chain c.in_err-make.ensures.err)

pub returns-in_err-make-clause-idle : goal.returns-in_err-make-clause-idle
returns-in_err-make-clause-idle c = c.make.ensures.idle c.loop-job.invariant.idle

pub loop-job-smaller : goal.loop-job-smaller
loop-job-smaller c =
    let now : ChainRun = c.loop-job.chain in let new : ChainRun = c.make.new.chain in
    ∥∥₁_elim (made c) le_prop
    (λ is. ∥∥₁_elim c.loop-job.invariant.right le_prop
    (λ right. ∥∥₁_elim c.journal-in-Some.ensures.run le_prop (λ run.
    nearer FINISHING_SLOT c.in-Some.job now new is c.every_run_ends.ensures.falls c.runs.ensures.front right run)))

pub loop-job-preserved : goal.loop-job-preserved
loop-job-preserved c =
    let first : ChainRun = c.args.chain.now in let now : ChainRun = c.loop-job.chain in let new : ChainRun =
    c.make.new.chain in
    let one : ∥ LeadsBack now new ∥₁ =
    ∥∥₁_map₂ c.in-Some.ensures.first (made c) (back_one c.finish.ensures.begun c.in-Some.job now new) in
    record {
      given = given_on first now new c.loop-job.invariant.given
          (same_run new (record now { journal = new.journal; heads = new.heads }) (made c)
          (given_made FINISHING_SLOT c.in-Some.job now new));
      right = c.journal-in-Some.ensures.setting;
      run = c.journal-in-Some.ensures.run;
      back = ∥∥₁_map₂ c.loop-job.invariant.back one (back_on first now new c.loop-job.invariant.given);
      idle = c.make.ensures.idle c.loop-job.invariant.idle;
    }

pub returns-clause-ok : goal.returns-clause-ok
returns-clause-ok c =
    ∥∥₁_map₂ c.loop-job.invariant.back (c.in_default.ensures.none refl)
    (λ back. at_end c.args.chain.now c.loop-job.chain c.loop-job.invariant.given back c.finish.ensures.ended)
