-- The first step of a list that isn't legal.
use Rattle.std.specs.Prelude.{ℕ, ◌≡◌, List, take, slice_get, Some, None}
use Rattle.ftc_mbox.specs.declared.rule.Rule.{Rule}
use Rattle.ftc_serial.specs.declared.step.Step.{Step}
use Rattle.ftc_serial.specs.Serial.{State, serial_step, serial_run}

-- the steps before that place are a serial run, after which the step there isn't legal
pub record IsFirstIllegal (rules : List Rule) (start : State) (steps : List Step) (place : ℕ) : Type 0 where
  pub reached : State
  pub step : Step
  pub before : serial_run rules start (take place steps) ≡ Some reached
  pub there : slice_get steps place ≡ Some step
  pub illegal : serial_step rules reached step ≡ None
