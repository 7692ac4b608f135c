-- A list of steps has no serial run where one of them isn't legal.
use Rattle.std.proofs.Common.{◌≡◌, ℕ, zero, suc, List, [], ◌∷◌, Some, None, refl, take}
use Rattle.std.specs.Prelude.{slice_get, option_and_then, IsSome}
use Rattle.ftc_mbox.specs.declared.rule.Rule.{Rule}
use Rattle.ftc_serial.specs.declared.step.Step.{Step}
use Rattle.ftc_serial.specs.Serial.{State, serial_step, serial_run}
use Rattle.ftc_serial.specs.Illegal.{IsFirstIllegal}

no_run : (rules : List Rule) (start reached : State) (steps : List Step) (place : ℕ) (step : Step) →
    serial_run rules start (take place steps) ≡ Some reached → slice_get steps place ≡ Some step →
    serial_step rules reached step ≡ None → serial_run rules start steps ≡ None
no_run rules start reached [] place step run there illegal = absurd (cc)
no_run rules start reached (s ∷ steps) zero step run there illegal =
    let same : s ≡ step = cc in
    let here : start ≡ reached = cc in
    let none : serial_step rules start s ≡ None = rw (same, here) illegal in
    rw none refl
no_run rules start reached (s ∷ steps) (suc place) step run there illegal =
    elim (serial_step rules start s) as (λ o. option_and_then (λ next. serial_run rules next (take place steps)) o
    ≡ Some reached → option_and_then (λ next. serial_run rules next steps) o ≡ None) [
      | None ↦ λ e. refl
      | Some next ↦ λ e. no_run rules next reached steps place step e there illegal
    ] run

pub not_illegal : (rules : List Rule) (start : State) (steps : List Step) (place : ℕ) →
    IsFirstIllegal rules start steps place → IsSome (serial_run rules start steps) → ⊥
not_illegal rules start steps place first some =
    let none = no_run rules start first.reached steps place first.step first.before first.there first.illegal in
    let impossible = rw none at some in cc
