-- the places before the first have nothing
use Rattle.std.proofs.Common.{◌≡◌, ◌<◌, ℕ, length, ◌-◌, None}
use Rattle.ftc_machine.specs.Slots.{slot_at}
use Rattle.ftc_machine.proofs.state.slots.Slots.pass_over.Given as goal

abbrev pub invariant-loop-self : goal.invariant-loop-self
invariant-loop-self g l = record {
  same : l.self-inside.places ≡ l.initial.self-inside.places;
  nothing : (place : ℕ) → place < l.self-inside.first → slot_at l.self-inside.places.items place ≡ None;
}

abbrev pub decreases-loop-self : goal.decreases-loop-self
decreases-loop-self g l = length l.self-inside.places.items - l.self-inside.first
