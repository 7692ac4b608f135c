-- the header and the records so far have been added
use Rattle.std.proofs.Common.{◌≡◌, ◌++◌, take}
use Rattle.std.specs.List.{flat_map}
use Rattle.ftc_report.specs.Output.{released_record}
use Rattle.ftc_report.proofs.released.out_of.Given as goal

abbrev pub invariant-loop-packet : goal.invariant-loop-packet
invariant-loop-packet l = l.out ≡ l.capture.header
    ++ flat_map (released_record l.capture) (take l.packet-index l.packet-items)
