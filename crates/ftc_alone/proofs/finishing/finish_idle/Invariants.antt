-- a finish of the run so far is a finish of the first run
use Rattle.ftc_chain.specs.ChainRun.{setting_in, chain_state}
use Rattle.ftc_protocol.specs.Measure.{work_left}
use Rattle.ftc_protocol.specs.Run.{IsRun}
use Rattle.ftc_protocol.specs.Setting.{IsSetting}
use Rattle.ftc_chain.specs.Slots.{AreIdle}
use Rattle.ftc_alone.specs.Alone.{IsSameGiven}
use Rattle.ftc_alone.proofs.FinishSteps.{LeadsBack}
use Rattle.ftc_alone.proofs.finishing.finish_idle.Given as goal

abbrev pub invariant-loop-job : goal.invariant-loop-job
invariant-loop-job l = record {
  given : IsSameGiven l.fn.chain l.chain;
  right : ∥ IsSetting (setting_in l.chain) ∥₁;
  run : ∥ IsRun (setting_in l.chain) l.chain.journal ∥₁;
  back : ∥ LeadsBack l.fn.chain l.chain ∥₁;
  idle : AreIdle l.chain;
}

abbrev pub decreases-loop-job : goal.decreases-loop-job
decreases-loop-job l = work_left (setting_in l.chain) (chain_state l.chain)
