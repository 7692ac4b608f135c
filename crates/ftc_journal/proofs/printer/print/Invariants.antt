-- the header and the lines so far have been added
use Rattle.std.proofs.Common.{◌≡◌, ◌++◌, take}
use Rattle.std.specs.List.{flat_map}
use Rattle.ftc_journal.specs.Text.{header, line_of}
use Rattle.ftc_journal.proofs.printer.print.Given as goal

abbrev pub invariant-loop-event : goal.invariant-loop-event
invariant-loop-event l = l.out ≡ header ++ flat_map line_of (take l.event-index l.event-items)
