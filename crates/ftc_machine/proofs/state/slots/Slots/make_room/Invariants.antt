-- the places that there were are as they were
use Rattle.std.proofs.Common.{◌≡◌, ℕ, length, ◌+◌, ◌-◌}
use Rattle.ftc_machine.specs.Slots.{slot_at}
use Rattle.ftc_machine.proofs.state.slots.Slots.make_room.Given as goal

abbrev pub invariant-loop-self : goal.invariant-loop-self
invariant-loop-self g l = record {
  same : (other : ℕ) → slot_at l.self-inside.places.items other ≡ slot_at l.initial.self-inside.places.items other;
  first : l.self-inside.first ≡ l.initial.self-inside.first;
}

abbrev pub decreases-loop-self : goal.decreases-loop-self
decreases-loop-self g l = l.place + 1 - length l.self-inside.places.items
