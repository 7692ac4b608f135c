use Rattle.std.proofs.Common.{◌≡◌, ◌++◌, drop}
use Rattle.std.specs.List.{flat_map}
use Rattle.ftc_serial.specs.Trace.{undone_by}
use Rattle.ftc_machine.proofs.trace.all_undone.Given as goal

abbrev pub invariant-loop-event : goal.invariant-loop-event
invariant-loop-event l = l.undone ++ flat_map undone_by (drop l.event-index l.events) ≡ flat_map undone_by l.events
