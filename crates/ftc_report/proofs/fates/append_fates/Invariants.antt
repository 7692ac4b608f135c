-- the lines so far have been added
use Rattle.std.proofs.Common.{◌≡◌, ◌++◌, take}
use Rattle.std.specs.List.{flat_map, enumerate_from}
use Rattle.ftc_report.specs.Text.{fate_line}
use Rattle.ftc_report.proofs.fates.append_fates.Given as goal

abbrev pub invariant-loop-packet : goal.invariant-loop-packet
invariant-loop-packet l = l.out ≡ l.fn.out ++ flat_map fate_line (enumerate_from 0 (take l.packet l.fate-items))
