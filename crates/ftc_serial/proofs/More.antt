-- A run, and one step more of its list.
use Rattle.std.proofs.Common.{◌≡◌, ℕ, zero, suc, ◌+◌, ◌<◌, List, [], ◌∷◌, length, get_or, Option, Some, None, refl, sym}
use Rattle.std.proofs.Common.{ap, ◌∙◌, take, add-one}
use Rattle.std.proofs.lemmas.Option.{slice_get_read}
use Rattle.std.specs.Prelude.{slice_get, option_and_then}
use Rattle.ftc_mbox.specs.declared.rule.Rule.{Rule}
use Rattle.ftc_serial.specs.declared.step.Step.{Step}
use Rattle.ftc_serial.specs.Serial.{State, serial_step, serial_run}
use Rattle.ftc_serial.specs.Illegal.{IsFirstIllegal}

-- the next step leads from where the steps before it led
pub run_more : (rules : List Rule) (start reached : State) (steps : List Step) (place : ℕ) (step : Step) →
    serial_run rules start (take place steps) ≡ Some reached → slice_get steps place ≡ Some step →
    serial_run rules start (take (suc place) steps) ≡ serial_step rules reached step
run_more rules start reached [] place step run there = absurd (cc)
run_more rules start reached (s ∷ steps) zero step run there =
    let same : s ≡ step = cc in
    let here : start ≡ reached = cc in
    last (serial_step rules start s) ∙ ap (serial_step rules start) same ∙ ap
    (λ (t : State). serial_step rules t step) here
  where
    last : (o : Option State) → option_and_then (λ next. serial_run rules next []) o ≡ o
    last None = refl
    last (Some next) = refl
run_more rules start reached (s ∷ steps) (suc place) step run there =
    elim (serial_step rules start s) as (λ o. option_and_then (λ next. serial_run rules next (take place steps)) o
    ≡ Some reached → option_and_then (λ next. serial_run rules next (take (suc place) steps)) o
    ≡ serial_step rules reached step) [
      | None ↦ λ e. absurd (cc)
      | Some next ↦ λ e. run_more rules next reached steps place step e there
    ] run

-- the step that a loop has read is that of its place
read_at : (steps items : List Step) (place : ℕ) (step : Step) → items ≡ steps → place < length items →
    step ≡ get_or items place step → slice_get steps place ≡ Some step
read_at steps items place step same within is =
    ap (λ (xs : List Step). slice_get xs place) (sym same) ∙ slice_get_read items
    (length items) place step refl within is

-- what a loop over the steps knows after one more
pub one_more : (rules held : List Rule) (start reached next : State) (steps items : List Step) (place : ℕ)
    (step : Step) → held ≡ rules → serial_run rules start (take place steps) ≡ Some reached → items ≡ steps →
    place < length items → step ≡ get_or items place step
    → serial_step held reached step ≡ Some next → serial_run rules start (take (place + 1) steps) ≡ Some next
one_more rules held start reached next steps items place step own run same within is made =
    rw add-one (run_more rules start reached steps place step run (read_at steps items place step same within is))
    ∙ ap (λ (r : List Rule). serial_step r reached step) (sym own) ∙ made

-- and where it can't be made
pub first_illegal : (rules held : List Rule) (start reached : State) (steps items : List Step) (place : ℕ)
    (step : Step) → held ≡ rules → serial_run rules start (take place steps) ≡ Some reached → items ≡ steps →
    place < length items → step ≡ get_or items place step
    → serial_step held reached step ≡ None → IsFirstIllegal rules start steps place
first_illegal rules held start reached steps items place step own run same within is refused = record {
  reached = reached;
  step = step;
  before = run;
  there = read_at steps items place step same within is;
  illegal = ap (λ (r : List Rule). serial_step r reached step) (sym own) ∙ refused;
}
