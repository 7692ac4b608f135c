use Rattle.std.proofs.Common.{◌≡◌, ◌++◌, drop}
use Rattle.std.specs.List.{flat_map}
use Rattle.ftc_serial.specs.Trace.{steps_of}
use Rattle.ftc_machine.proofs.trace.steps.Given as goal

abbrev pub invariant-loop-event : goal.invariant-loop-event
invariant-loop-event l = l.trace ++ flat_map (steps_of l.undone) (drop l.event-index l.events)
    ≡ flat_map (steps_of l.undone) l.events
