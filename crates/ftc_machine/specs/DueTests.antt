-- Which packets of the buffer the machine takes to be due.
use Rattle.std.specs.Prelude.{ℕ, ◌-◌, ◌&&◌, ◌||◌, nat_lt, not, Bool, List}
use Rattle.std.specs.List.{list_any}
use Rattle.ftc_base.specs.Sets.{has}
use Rattle.ftc_journal.specs.declared.event.VisitName.{VisitName}
use Rattle.ftc_machine.specs.declared.state.MachineState.{MachineState}
use Rattle.ftc_machine.specs.declared.state.message.Withheld.{Withheld}
use Rattle.ftc_machine.specs.Slots.{slot_at, has_such}
use Rattle.ftc_machine.specs.Tails.{known_at}
use Rattle.ftc_machine.specs.LegalityTests.{footprints_of, has_named, all_below}

-- how far reaches what the last server knows to be at the tails
abbrev pub known_last : MachineState → List (List ℕ)
known_last machine = known_at machine (machine.ring.servers - 1)

abbrev pub named : ℕ → ℕ → VisitName
named server packet = record { server = server; packet = packet }

-- a packet is due where each of its visits is known, so far, to be at its tail
abbrev pub is_due_by : MachineState → List (List ℕ) → Withheld → Bool
is_due_by machine reach withheld =
    all_below machine.ring.servers (λ group. not (has withheld.needs group) || has_named (footprints_of machine) reach
    (named group withheld.packet))

abbrev pub is_due_before : MachineState → List (List ℕ) → ℕ → Withheld → Bool
is_due_before machine reach since withheld = nat_lt withheld.since since && is_due_by machine reach withheld

abbrev pub is_any_due : MachineState → Bool
is_any_due machine = list_any (has_such (is_due_by machine (known_last machine))) machine.buffer

abbrev pub may_release : MachineState → ℕ → Bool
may_release machine packet =
    has_such (λ withheld. is_due_by machine (known_last machine) withheld
    && not (list_any (has_such (is_due_before machine (known_last machine) withheld.since)) machine.buffer))
    (slot_at machine.buffer packet)
